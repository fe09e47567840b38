-- `splits::split_at` meets its contract.
use native.Mathlib.Omega.{arith}
use Rattle.memory.proofs.RoomLaws.{held-vertices}
use Rattle.splits.proofs.SplitLaws.{remarked-no, remarked-yes, kept-first}
use Rattle.splits.proofs.split_at.Goals as goal

pub clear_marks-requires : goal.clear_marks-requires
clear_marks-requires c = (
  omega (
    arith,
    c.move_marks-kept.ensures.count,
    kept-first c.try_split_common_suffix.ensures c.in_ok-h.was,
  ),
  omega (
    arith,
    held-vertices (c.try_split_common_suffix.ensures.left.holds _ c.in_ok-h.was),
    c.requires.1.1,
    c.move_marks-kept.auto.tried,
  ),
)

pub returns-in_err-h : goal.returns-in_err-h
returns-in_err-h c = rw (c.from_residual.ensures, ← c.in_err-h.was) (remarked-no c.try_split_common_suffix.ensures c.in_err-h.was)

pub returns : goal.returns
returns c = rw (← c.in_ok-h.was)
    (remarked-yes
    c.try_split_common_suffix.ensures
    c.in_ok-h.was
    c.move_marks-kept.ensures
    c.clear_marks.ensures)
