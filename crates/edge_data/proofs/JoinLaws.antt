-- Support and flag as the code joins them are the definition's. Assumes nothing.
use mathlib.Core.Path.{◌≡◌, sym, ap, ◌∙◌}
use mathlib.Core.Bool.{Bool, ◌||◌}
use Prim.Native.Nat.{ℕ, ◌+◌, ◌*◌, ◌-◌, ◌≤◌}
use native.Mathlib.Omega.{arith}
use lib.Dec.{ltb}
use borrow.Author.Tests.{ltb-true, ltb-false, lt-ltb, le-ltb}
use Rattle.defs.specs.Lists.{bit}
use Rattle.defs.specs.SeqGraph.{saturating_add, joined_data}
use Rattle.defs.specs.Record.{flag_is_ref, flag_is_capped}
use Rattle.laws.proofs.Walks.{by_test}
use Rattle.laws.proofs.Flags.{flag-says-ref, flag-says-capped}
use Rattle.edge_data.specs.EdgeData.{carries}

-- a sum passes 2^32 - 1 where one support is more than what the other leaves of it
sum-passes : (s t : ℕ) → s ≤ 4294967295 → ltb (4294967295 - s) t ≡ ltb 4294967295 (s + t)
sum-passes s t h = by_test (ltb 4294967295 (s + t))
    (λ p. lt-ltb (4294967295 - s) t (omega (arith, h, ltb-true 4294967295 (s + t) p)) ∙ sym p)
    (λ p. le-ltb (4294967295 - s) t (omega (arith, h, ltb-false 4294967295 (s + t) p)) ∙ sym p)

pub joined_is : (s f t g u h : ℕ) (r c : Bool) → s ≤ 4294967295 → u ≡ saturating_add s t → h ≡ bit r + 2 * bit c → r ≡ (flag_is_ref f || flag_is_ref g)
    → c ≡ ((flag_is_capped f || flag_is_capped g) || ltb (4294967295 - s) t) → carries u h ≡ joined_data (carries s f) (carries t g)
unfolding joined_data
joined_is s f t g u h r c small sum flag ref mark = λ i. record {
  support = sum i;
  is_ref = (ap flag_is_ref flag ∙ flag-says-ref r c ∙ ref) i;
  capped = (ap flag_is_capped flag ∙ flag-says-capped r c ∙ mark ∙ ap (λ x. (flag_is_capped f || flag_is_capped g) || x) (sum-passes s t small)) i;
}
