-- `merge_suffices::try_merge_common_suffices` meets its contract.
use mathlib.Core.Path.{refl}
use Rattle.memory.proofs.RoomLaws.{room-kept}
use Rattle.merge_suffices.proofs.TryLaws.{testable, prevs-below, mergeable, left_not, left-done}
use Rattle.merge_suffices.proofs.try_merge_common_suffices.Goals as goal

pub is_merge-requires : goal.is_merge-requires
is_merge-requires c = (
  prevs-below c.requires.0 c.requires.1.0 c.collect-c.ensures
      c.collect-c.auto.out,
  testable c.requires.0 c.requires.1.0 c.requires.1.1.0,
)

pub returns-then-not-is_merge : goal.returns-then-not-is_merge
returns-then-not-is_merge c =
    left_not
    c.requires.0
    c.requires.1.0
    c.collect-c.ensures
    c.collect-c.auto.out
    c.is_merge.ensures
    c.if-not-is_merge.true

pub merge_common_suffices-requires : goal.merge_common_suffices-requires
merge_common_suffices-requires c = (
  room-kept c.requires.0 refl refl refl refl refl c.collect-c.auto.out refl,
  (
    c.requires.1.0,
    (
      c.requires.1.1.0,
      mergeable c.requires.0 c.requires.1.0 c.collect-c.ensures
          c.collect-c.auto.out c.is_merge.ensures c.requires.1.1.1
          c.if-not-is_merge.false,
    ),
  ),
)

pub returns : goal.returns
returns c =
    left-done
    c.requires.0
    c.requires.1.0
    c.collect-c.ensures
    c.collect-c.auto.out
    c.is_merge.ensures
    c.if-not-is_merge.false
    c.merge_common_suffices.ensures
