-- What a refusal's number says. Assumes nothing.
use Prim.Native.Nat.{ℕ}
use mathlib.Core.Path.{◌≡◌, refl, ap}
use native.Mathlib.Omega.{arith}
use Rattle.std.specs.Prelude.{Result, Ok, Err}
use Rattle.refusal.specs.Refusals.{number_of_refusal, refused_by}
use Rattle.refusal.specs.declared.Refusal.{Refusal}
use Rattle.refusal.specs.declared.Refusal.TheVariants.{
  OtherLength,
  WrongMark,
  PastLimit,
  LayoutDisagrees,
  BadEdge,
  Doubled,
  HasCycle,
  PastBytes,
  NotInGraph,
  NoReferencePath,
  NoRoom,
  NoOverlap,
  NoSuchCaller,
}

-- 0 is no refusal's number
pub some-number : (r : Refusal) → number_of_refusal r ≡ 0 → ⊥
some-number OtherLength e = omega arith
some-number WrongMark e = omega arith
some-number PastLimit e = omega arith
some-number LayoutDisagrees e = omega arith
some-number BadEdge e = omega arith
some-number Doubled e = omega arith
some-number HasCycle e = omega arith
some-number PastBytes e = omega arith
some-number NotInGraph e = omega arith
some-number NoReferencePath e = omega arith
some-number NoRoom e = omega arith
some-number NoOverlap e = omega arith
some-number NoSuchCaller e = omega arith

-- the two cases of what was made or refused
module _ {A : Type 0} {r : Result A Refusal} where
  pub refused-number : {n : Refusal} → r ≡ Err n → refused_by r ≡ number_of_refusal n
  refused-number e = ap refused_by e

  pub made-number : {a : A} → r ≡ Ok a → refused_by r ≡ 0
  made-number e = ap refused_by e
