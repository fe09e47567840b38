-- `merge_diamond::try_merge_tails` meets its contract.
use native.Mathlib.Omega.{arith}
use Rattle.merge_diamond.proofs.FollowLaws.{follows, nodes-below, parts}
use Rattle.merge_diamond.proofs.MergeLaws.{no-tails-left, two, short-left, tails-ready, tails-left}
use Rattle.merge_diamond.proofs.try_merge_tails.Goals as goal

pub is_tails-requires : goal.is_tails-requires
is_tails-requires c = (
  nodes-below (follows c.requires.room.0 c.requires.room.1 c.requires.lt_least.1.1 c.requires.lt_least.1.0
      (omega (arith, c.collect-c.auto.out)) c.collect-c.ensures),
  c.requires.lt_least.1.1,
)

pub returns-then-not-is_tails : goal.returns-then-not-is_tails
returns-then-not-is_tails c =
    no-tails-left (follows c.requires.room.0 c.requires.room.1 c.requires.lt_least.1.1 c.requires.lt_least.1.0
    (omega (arith, c.collect-c.auto.out)) c.collect-c.ensures) c.is_tails.ensures
    c.args.least c.if-not-is_tails.true

pub shared_prefix-x-requires : goal.shared_prefix-x-requires
shared_prefix-x-requires c =
    parts
    (follows c.requires.room.0 c.requires.room.1 c.requires.lt_least.1.1 c.requires.lt_least.1.0
    (omega (arith, c.collect-c.auto.out)) c.collect-c.ensures)
    (omega (
      arith,
      (two (follows c.requires.room.0 c.requires.room.1 c.requires.lt_least.1.1 c.requires.lt_least.1.0
          (omega (arith, c.collect-c.auto.out)) c.collect-c.ensures) c.is_tails.ensures
          c.args.least c.if-not-is_tails.false),
    ))

pub shared_suffix-len-requires : goal.shared_suffix-len-requires
shared_suffix-len-requires c = record {
  parts = parts (follows c.requires.room.0 c.requires.room.1 c.requires.lt_least.1.1 c.requires.lt_least.1.0
      (omega (arith, c.collect-c.auto.out)) c.collect-c.ensures)
      (omega (
        arith,
        (two (follows c.requires.room.0 c.requires.room.1 c.requires.lt_least.1.1 c.requires.lt_least.1.0
            (omega (arith, c.collect-c.auto.out)) c.collect-c.ensures) c.is_tails.ensures
            c.args.least c.if-not-is_tails.false),
      ));
  by_index = λ k h. omega (arith, c.shared_prefix-x.ensures.all k h);
}

pub returns-then-len-least : goal.returns-then-len-least
returns-then-len-least c =
    short-left (follows c.requires.room.0 c.requires.room.1 c.requires.lt_least.1.1 c.requires.lt_least.1.0
    (omega (arith, c.collect-c.auto.out)) c.collect-c.ensures) c.is_tails.ensures
    c.args.least c.if-not-is_tails.false c.shared_prefix-x.ensures
    c.shared_suffix-len.ensures c.if-len-least.true

pub split_and_update-requires : goal.split_and_update-requires
split_and_update-requires c =
    tails-ready
    (follows c.requires.room.0 c.requires.room.1 c.requires.lt_least.1.1 c.requires.lt_least.1.0
    (omega (arith, c.collect-c.auto.out)) c.collect-c.ensures)
    c.is_tails.ensures
    c.args.least
    c.if-not-is_tails.false
    c.shared_prefix-x.ensures
    c.shared_suffix-len.ensures
    c.requires.lt_least.0
    c.if-len-least.false

pub returns : goal.returns
returns c =
    tails-left (follows c.requires.room.0 c.requires.room.1 c.requires.lt_least.1.1 c.requires.lt_least.1.0
    (omega (arith, c.collect-c.auto.out)) c.collect-c.ensures) c.is_tails.ensures
    c.args.least c.if-not-is_tails.false c.shared_prefix-x.ensures
    c.shared_suffix-len.ensures c.requires.lt_least.0 c.if-len-least.false
    c.split_and_update.ensures
