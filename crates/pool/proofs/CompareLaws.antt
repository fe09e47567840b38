-- The loop that compares two parts. Assumes nothing.
use mathlib.Core.Path.{◌≡◌, sym, ap, ◌∙◌}
use mathlib.Core.Bool.{true, false}
use mathlib.Core.List.{List}
use Prim.Native.Nat.{ℕ, ◌+◌, ◌≤◌, ◌<◌}
use native.Mathlib.Omega.{arith}
use lib.ListN.{length, get_or, drop}
use lib.Seq.{get_or-take, get_or-drop}
use Rattle.defs.specs.Lists.{same_list}
use Rattle.laws.proofs.Walks.{by_test}
use Rattle.laws.proofs.ListLaws.{same_list-eq, same_list-refl}
use Rattle.store.specs.Store.{part}
use Rattle.pool.proofs.PoolLaws.{part_same}

pub same_not : (a b : List ℕ) → (a ≡ b → ⊥) → same_list a b ≡ false
same_not a b h = by_test (same_list a b) (λ t. absurd (h (same_list-eq a b t))) (λ t. t)
