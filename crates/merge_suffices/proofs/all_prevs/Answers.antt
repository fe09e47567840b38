-- `merge_suffices::all_prevs` meets its contract.
use mathlib.Core.Path.{◌≡◌}
use mathlib.Core.Bool.{true, false}
use Prim.Native.Nat.{ℕ, ◌<◌}
use lib.ListN.{get_or}
use native.Mathlib.Omega.{arith}
use lib.Seq.{length-take-le}
use borrow.Author.Rules.{rules}
use Rattle.std.proofs.lemmas.Iterator.{YieldsList-from_slice, cases_from_all}
use Rattle.std.proofs.lemmas.Iterator.Adapters.{serves_from_places}
use Rattle.merge_suffices.specs.Merge.{is_prev}
use Rattle.diamond.proofs.TestLaws.{node-below, all-nodes}
use Rattle.merge_suffices.proofs.all_prevs.Goals as goal

pub all-requires-clause-callable : goal.all-requires-clause-callable
all-requires-clause-callable c =
    serves_from_places (YieldsList-from_slice _ c.iter.ensures.rest) (λ x q r. search rules)
    (λ x k h e.
    let b : x.now < c.args.n = node-below c.requires.0 h e in
    let l = length-take-le c.args.c c.args.nodes.now c.requires.0.room in
    let z : 0 < c.args.c = omega arith in
    let f = c.requires.0.at 0 z in
    search rules)

pub returns : goal.returns
returns c =
    all-nodes c.all.result c.requires.0 (is_prev c.args.m c.args.es.now c.args.vs.now c.args.p.now (get_or c.args.nodes.now 0 0))
    (cases_from_all _ _ _
    (λ (v : ℕ). is_prev c.args.m c.args.es.now c.args.vs.now c.args.p.now (get_or c.args.nodes.now 0 0) v ≡ true)
    (λ (v : ℕ). is_prev c.args.m c.args.es.now c.args.vs.now c.args.p.now (get_or c.args.nodes.now 0 0) v ≡ false)
    c.all.ensures.ran (YieldsList-from_slice _ c.iter.ensures.rest) (λ x q k. search rules) (λ x q k. search rules))
