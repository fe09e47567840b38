-- `load::load_vertices` meets its contract.
use native.Mathlib.Omega.{arith}
use Prim.Native.Nat.{◌-◌}
use Rattle.load.proofs.LoadLaws.{ReadingVertices, length-inside, vertices-start, start_small, vertices-more, vertices-end}
use Rattle.load.proofs.load_vertices.Goals as goal

pub loop-i-init : goal.loop-i-init
loop-i-init c = vertices-start

pub length_at-len-requires : goal.length_at-len-requires
length_at-len-requires c = length-inside c.requires.0 c.requires.1.0 _ (omega arith)

pub overflow_cast-start : goal.overflow_cast-start
overflow_cast-start c = omega (
  arith,
  start_small c.loop-i.invariant (omega arith) c.requires.0 (omega (arith, c.requires.1)) c.length_at-len.ensures.0,
)

pub overflow_add-start : goal.overflow_add-start
overflow_add-start c = omega (
  arith,
  start_small c.loop-i.invariant (omega arith) c.requires.0 (omega (arith, c.requires.1)) c.length_at-len.ensures.0,
)

pub loop-i-preserved : goal.loop-i-preserved
loop-i-preserved c =
    vertices-more
    c.loop-i.invariant
    (omega arith)
    (omega arith)
    c.length_at-len.ensures.0
    c.put_vertex.ensures
