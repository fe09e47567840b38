-- `split_suffix::add_edges` meets its contract.
use native.Mathlib.Omega.{arith}
use Rattle.std.proofs.lemmas.Grind.{common_steps}
use mathlib.Core.Path.{ap}
use Prim.Native.Nat.{ℕ}
use lib.Dec.{ltb}
use Rattle.split_suffix.proofs.EdgeLoops.{adding-start, adding-block, adding-more, next_small, first_small, entries}
use Rattle.split_suffix.proofs.add_edges.Goals as goal

pub overflow_cast-y : goal.overflow_cast-y
overflow_cast-y c = omega (arith, first_small c.requires)

pub loop-i-init : goal.loop-i-init
loop-i-init c =
    adding-start c.requires c.fill.auto.dst c.fill.ensures

pub split_edges-k-requires : goal.split_edges-k-requires
split_edges-k-requires c =
    adding-block
    c.requires
    c.loop-i.invariant
    (omega arith)
    (ap (λ (x : ℕ). ltb c.args.s x) c.vertex_len.ensures)

pub overflow_add-y-in-loop-i : goal.overflow_add-y-in-loop-i
overflow_add-y-in-loop-i c =
    let small = next_small c.requires c.loop-i.invariant (omega arith) (ap (λ (x : ℕ). ltb c.args.s x) c.vertex_len.ensures) in
    grind (arith, common_steps)

pub loop-i-preserved : goal.loop-i-preserved
loop-i-preserved c =
    entries
    (grind (arith, common_steps))
    (adding-more c.requires c.loop-i.invariant (omega arith)
    (ap (λ (x : ℕ). ltb c.args.s x) c.vertex_len.ensures)
    c.split_edges-k.ensures c.split_edges-k.auto.es
    c.split_edges-k.auto.map)
