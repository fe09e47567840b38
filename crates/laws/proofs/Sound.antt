-- What every rewrite keeps.
-- Assumes nothing.
use Prim.Native.Nat.{ℕ}
use mathlib.Core.Logic.{◌↔◌}
use mathlib.Core.List.{List}
use Rattle.defs.specs.SeqGraph.{Graph}
use Rattle.defs.specs.Strings.{Spells}
use Rattle.laws.proofs.Nets.{Ranks, Bounded}

-- the ends of each edge are vertices, and there is no cycle
pub record Sound (g : Graph) : Type 0 where
  pub bounded : Bounded g
  pub rank : ℕ → ℕ
  pub ranks : Ranks g rank

pub record Keeps (g g' : Graph) : Type 0 where
  pub sound : Sound g'
  pub spells : (s : List ℕ) → Spells g s ↔ Spells g' s

pub keeps_same : (g : Graph) → Sound g → Keeps g g
keeps_same g h = record { sound = h; spells = λ s. (λ w. w, λ w. w) }

pub keeps_then : {a b c : Graph} → Keeps a b → Keeps b c → Keeps a c
keeps_then h k = record { sound = k.sound; spells = λ s. (λ w. (k.spells s).0 ((h.spells s).0 w), λ w. (h.spells s).1 ((k.spells s).1 w)) }
