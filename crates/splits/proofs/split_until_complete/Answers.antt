-- `splits::split_until_complete` meets its contract.
use native.Mathlib.Omega.{arith}
use Rattle.splits.proofs.SplitLaws.{none-marked, doing-start, doing_end, doing-countable, doing-less, doing-indexable, doing-more}
use Rattle.splits.proofs.split_until_complete.Goals as goal

pub loop-held-init : goal.loop-held-init
loop-held-init c = doing-start c.requires.0 (none-marked _ _ c.clear_marks.ensures.none)

pub returns : goal.returns
returns c =
    doing_end
    c.loop-held.invariant
    c.first_split.ensures
    c.in_default.is
    c.first_split.auto.nodes
    c.first_split.auto.map

pub build_index-requires : goal.build_index-requires
build_index-requires c =
    doing-indexable
    c.loop-held.invariant
    c.first_split.ensures
    c.in-Some.is
    c.first_split.auto.es

pub overflow_add-w : goal.overflow_add-w
overflow_add-w c =
    omega (
      arith,
      doing-countable c.loop-held.invariant c.first_split.ensures
          c.in-Some.is c.requires.1.0,
    )

pub loop-held-smaller : goal.loop-held-smaller
loop-held-smaller c =
    omega (
      arith,
      doing-less c.loop-held.invariant c.first_split.ensures c.in-Some.is,
      c.build_index.auto,
    )

pub loop-held-preserved : goal.loop-held-preserved
loop-held-preserved c =
    doing-more c.loop-held.invariant c.first_split.ensures c.in-Some.is
    c.build_index.ensures c.first_split.auto.es
    c.first_split.auto.vs c.build_index.auto.heads
    c.build_index.auto.nexts c.first_split.auto.nodes
    c.first_split.auto.map
