-- `splits::first_split` meets its contract.
use native.Mathlib.Omega.{arith}
use Rattle.memory.proofs.RoomLaws.{held-vertices}
use Rattle.splits.proofs.SplitLaws.{splitting-tried, splitting-none, splitting-found, splitting-end}
use Rattle.splits.proofs.first_split.Goals as goal
use Rattle.splits.proofs.first_split.Goals.{then-tried-v-eq0+in_default, else-tried-v-eq0}

pub returns-in-Some : goal.returns-in-Some
returns-in-Some c = rw (← c.in-Some.is)
    (splitting-found
    c.loop-v.invariant
    (omega arith)
    c.if-tried-v-eq0.true
    (omega (arith, held-vertices c.requires.0.holds, c.requires.1))
    c.split_at.ensures
    c.in-Some.is)

pub loop-v-preserved : goal.loop-v-preserved
loop-v-preserved c = elim c.if-tried-v-eq0.branch [
  | then-tried-v-eq0+in_default w ↦ rw (w.es-is, w.vs-is, w.nodes-is, w.map-is, w.tried-is)
      (splitting-none c.loop-v.invariant (omega arith) w.if-tried-v-eq0.true (omega (arith, held-vertices c.requires.0.holds, c.requires.1))
      w.split_at.ensures w.in_default.is w.split_at.auto.nodes w.split_at.auto.map)
  | else-tried-v-eq0 w ↦ rw (w.es-is, w.vs-is, w.nodes-is, w.map-is, w.tried-is)
      (splitting-tried c.loop-v.invariant (omega arith) w.if-tried-v-eq0.false)
]

pub returns : goal.returns
returns c =
    splitting-end c.loop-v.invariant (omega arith) _ _
