-- `doubled::doubled_edge` meets its contract.
use native.Mathlib.Omega.{arith}
use Prim.Native.Nat.{◌-◌}
use mathlib.Core.Path.{refl, ◌∙◌}
use Rattle.doubled.proofs.DoubledLaws.{
  ScanningEdges,
  scanning-start,
  scanning-more,
  markable-kept,
  twins-doubled,
  twinless,
}
use Rattle.doubled.proofs.doubled_edge.Goals as goal

pub returns-then-doubled_from : goal.returns-then-doubled_from
returns-then-doubled_from c =
    twins-doubled (c.doubled_from.ensures.yes c.if-doubled_from.true)

pub returns : goal.returns
returns c = twinless c.requires.0.ends (λ u b. c.loop-v.invariant.none u (omega arith))
