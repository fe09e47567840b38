-- `until::transform_until_complete` meets its contract.
use native.Mathlib.Omega.{arith}
use Rattle.until.proofs.UntilLaws.{doing-start, doing_end, doing-countable, doing-less, doing-indexable, doing-more}
use Rattle.until.proofs.transform_until_complete.Goals as goal

pub loop-held-init : goal.loop-held-init
loop-held-init g c = doing-start c.requires.0

pub returns : goal.returns
returns g c =
    doing_end
    c.loop-held.invariant
    c.first_at.ensures
    c.in_default.is
    c.first_at.auto.nodes
    c.first_at.auto.map

pub build_index-requires : goal.build_index-requires
build_index-requires g c =
    doing-indexable
    c.loop-held.invariant
    c.first_at.ensures
    c.in-Some.is
    c.first_at.auto.es

pub overflow_add-w : goal.overflow_add-w
overflow_add-w g c =
    omega (
      arith,
      doing-countable c.loop-held.invariant
          c.first_at.ensures
          c.in-Some.is c.requires.1,
    )

pub loop-held-smaller : goal.loop-held-smaller
loop-held-smaller g c = doing-less c.loop-held.invariant c.first_at.ensures c.in-Some.is

pub loop-held-preserved : goal.loop-held-preserved
loop-held-preserved g c =
    doing-more c.loop-held.invariant
    c.first_at.ensures
    c.in-Some.is c.build_index.ensures
    c.first_at.auto.es c.first_at.auto.vs
    c.first_at.auto.p c.build_index.auto.heads
    c.build_index.auto.nexts c.first_at.auto.nodes
    c.first_at.auto.map
