-- The number of each refusal. Assumes nothing.
use Rattle.std.specs.Prelude.{ℕ, Result, Ok, Err}
use Rattle.refusal.specs.declared.Refusal.{Refusal}
use Rattle.refusal.specs.declared.Refusal.TheVariants.{
  OtherLength,
  WrongMark,
  PastLimit,
  LayoutDisagrees,
  BadEdge,
  Doubled,
  HasCycle,
  PastBytes,
  NotInGraph,
  NoReferencePath,
  NoRoom,
  NoOverlap,
  NoSuchCaller,
}

-- as a call answers it
abbrev pub number_of_refusal : Refusal → ℕ
number_of_refusal OtherLength = 1
number_of_refusal WrongMark = 2
number_of_refusal PastLimit = 3
number_of_refusal LayoutDisagrees = 4
number_of_refusal BadEdge = 5
number_of_refusal Doubled = 6
number_of_refusal HasCycle = 7
number_of_refusal PastBytes = 8
number_of_refusal NotInGraph = 9
number_of_refusal NoReferencePath = 10
number_of_refusal NoRoom = 11
number_of_refusal NoOverlap = 15
number_of_refusal NoSuchCaller = 18

-- of what was made or refused: the refusal's number; 0 where there is none
abbrev pub refused_by : {A : Type 0} → Result A Refusal → ℕ
refused_by (Ok a) = 0
refused_by (Err r) = number_of_refusal r
