-- `merge_diamond::try_merge_diamond` meets its contract.
use native.Mathlib.Omega.{arith}
use Rattle.merge_diamond.proofs.FollowLaws.{follows, first-node, nodes-below, bottom-first, parts}
use Rattle.merge_diamond.proofs.MergeLaws.{
  few-left,
  other-left,
  unshared-left,
  diamond-ready,
  diamond-left,
}
use Rattle.merge_diamond.proofs.try_merge_diamond.Goals as goal

pub returns-then-c-lt2 : goal.returns-then-c-lt2
returns-then-c-lt2 c =
    few-left (follows c.requires.room.0 c.requires.room.1 c.requires.top_lt_n.1 c.requires.top_lt_n.0
    (omega (arith, c.collect-c.auto.out)) c.collect-c.ensures) c.if-c-lt2.true

pub first_follower-b-requires : goal.first_follower-b-requires
first_follower-b-requires c = (
  first-node (follows c.requires.room.0 c.requires.room.1 c.requires.top_lt_n.1 c.requires.top_lt_n.0
      (omega (arith, c.collect-c.auto.out)) c.collect-c.ensures) (omega (arith, c.if-c-lt2.false)),
  c.requires.top_lt_n.1,
)

pub is_diamond-requires : goal.is_diamond-requires
is_diamond-requires c = (
  bottom-first (follows c.requires.room.0 c.requires.room.1 c.requires.top_lt_n.1 c.requires.top_lt_n.0
      (omega (arith, c.collect-c.auto.out)) c.collect-c.ensures)
      c.first_follower-b.ensures,
  (
    nodes-below (follows c.requires.room.0 c.requires.room.1 c.requires.top_lt_n.1 c.requires.top_lt_n.0
        (omega (arith, c.collect-c.auto.out)) c.collect-c.ensures),
    c.requires.top_lt_n.1,
  ),
)

pub returns-then-not-is_diamond : goal.returns-then-not-is_diamond
returns-then-not-is_diamond c =
    other-left (follows c.requires.room.0 c.requires.room.1 c.requires.top_lt_n.1 c.requires.top_lt_n.0
    (omega (arith, c.collect-c.auto.out)) c.collect-c.ensures) c.if-c-lt2.false
    c.first_follower-b.ensures c.is_diamond.ensures c.if-not-is_diamond.true

pub shared_prefix-x-requires : goal.shared_prefix-x-requires
shared_prefix-x-requires c =
    parts
    (follows c.requires.room.0 c.requires.room.1 c.requires.top_lt_n.1 c.requires.top_lt_n.0
    (omega (arith, c.collect-c.auto.out)) c.collect-c.ensures)
    (omega (arith, c.if-c-lt2.false))

pub shared_suffix-y-requires : goal.shared_suffix-y-requires
shared_suffix-y-requires c = record {
  parts = parts (follows c.requires.room.0 c.requires.room.1 c.requires.top_lt_n.1 c.requires.top_lt_n.0
      (omega (arith, c.collect-c.auto.out)) c.collect-c.ensures) (omega (arith, c.if-c-lt2.false));
  by_index = λ k h. omega (arith, c.shared_prefix-x.ensures.all k h);
}

pub returns-then-x-y-eq0 : goal.returns-then-x-y-eq0
returns-then-x-y-eq0 c =
    unshared-left (follows c.requires.room.0 c.requires.room.1 c.requires.top_lt_n.1 c.requires.top_lt_n.0
    (omega (arith, c.collect-c.auto.out)) c.collect-c.ensures) c.if-c-lt2.false
    c.first_follower-b.ensures c.is_diamond.ensures
    c.shared_prefix-x.ensures c.shared_suffix-y.ensures
    c.if-not-is_diamond.false c.if-x-y-eq0.true

pub split_and_update-requires : goal.split_and_update-requires
split_and_update-requires c =
    diamond-ready
    (follows c.requires.room.0 c.requires.room.1 c.requires.top_lt_n.1 c.requires.top_lt_n.0
    (omega (arith, c.collect-c.auto.out)) c.collect-c.ensures)
    c.if-c-lt2.false
    c.first_follower-b.ensures
    c.is_diamond.ensures
    c.shared_prefix-x.ensures
    c.shared_suffix-y.ensures
    c.if-not-is_diamond.false
    (omega (arith, c.if-x-y-eq0.false))

pub returns : goal.returns
returns c =
    diamond-left (follows c.requires.room.0 c.requires.room.1 c.requires.top_lt_n.1 c.requires.top_lt_n.0
    (omega (arith, c.collect-c.auto.out)) c.collect-c.ensures) c.if-c-lt2.false
    c.first_follower-b.ensures c.is_diamond.ensures
    c.shared_prefix-x.ensures c.shared_suffix-y.ensures
    c.if-not-is_diamond.false (omega (arith, c.if-x-y-eq0.false))
    c.split_and_update.ensures
