-- `vertex_sequence::check_graph` meets its contract.
use mathlib.Core.Path.{refl}
use Rattle.cycle.proofs.PeelLaws.{peelable-kept}
use Rattle.vertex_sequence.proofs.VertexLaws.{checks-6, checks-7, checks-0}
use Rattle.vertex_sequence.proofs.check_graph.Goals as goal

pub returns-then-is_doubled : goal.returns-then-is_doubled
returns-then-is_doubled c =
    checks-6 _ _ _ _ _ c.is_doubled.ensures c.if-is_doubled.true

pub has_cycle-requires : goal.has_cycle-requires
has_cycle-requires c = (
  c.requires.indexed,
  (
    c.requires.few,
    peelable-kept c.requires.peelable c.is_doubled.auto.scratch refl,
  ),
)

pub returns-then-has_cycle : goal.returns-then-has_cycle
returns-then-has_cycle c =
    checks-7 _ _ _ _ _
    c.is_doubled.ensures
    c.if-is_doubled.false
    c.has_cycle.ensures
    c.if-has_cycle.true

pub returns : goal.returns
returns c =
    checks-0 _ _ _ _ _
    c.is_doubled.ensures
    c.if-is_doubled.false
    c.has_cycle.ensures
    c.if-has_cycle.false
