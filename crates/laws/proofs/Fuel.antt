-- The fuel is enough: a transform goes on until no vertex allows it.
-- Assumes nothing.
use Prim.Native.Nat.{ℕ, zero, suc, ◌+◌, ◌≤◌, ◌<◌}
use native.Mathlib.Omega.{arith}
use mathlib.Core.Path.{◌≡◌, refl, sym, ◌∙◌}
use mathlib.Core.Bool.{Bool, true, false, ◌&&◌}
use mathlib.Core.Option.{Option, none, some}
use mathlib.Core.List.{List, [], ◌∷◌}
use lib.Dec.{eqb}
use lib.ListN.{length}
use Rattle.defs.specs.SeqGraph.{Graph, node_count, apply_change}
use Rattle.defs.specs.Zip.{Work}
use Rattle.defs.specs.Rewrites.{merge_change}
use Rattle.defs.specs.Simplify.{first_at, transform_until_complete, sequence_bytes, empty_vertices}
use Rattle.laws.proofs.Counts.{Single}
use Rattle.laws.proofs.Sound.{Sound, Keeps}
use Rattle.laws.proofs.Whole.{by_option, again, first_at-some, until_none, until-some}

module _ (f : Graph → ℕ → Option Graph) (Inv : Graph → Type 0) (μ : Graph → ℕ)
    (falls : (g g' : Graph) (v : ℕ) → Inv g → f g v ≡ some g' → Inv g' × (μ g' < μ g)) where
  unfoldable pub Done : Work → Type 0
  Done r = Inv r.graph × (first_at (f r.graph) 0 (node_count r.graph) ≡ none)

  done-turn : (fuel : ℕ) (w : Work) → Inv w.graph → μ w.graph < suc fuel
      → ((a : Graph) → Inv a → μ a < fuel → Done (transform_until_complete f fuel (again w a))) → Done (transform_until_complete f (suc fuel) w)
  unfolding Done
  done-turn fuel w h l ih = by_option (first_at (f w.graph) 0 (node_count w.graph))
      (λ t. rw (until_none f fuel w t) (h, t))
      (λ a t. let i = first_at-some (f w.graph) 0 (node_count w.graph) a t in
      let z = falls w.graph a i.0 h i.1 in
      rw (until-some f fuel w a t) (ih a z.0 (omega (arith, z.1))))

  pub until-done : (fuel : ℕ) (w : Work) → Inv w.graph → μ w.graph < fuel → Done (transform_until_complete f fuel w)
  until-done zero w h l = absurd (omega arith)
  until-done (suc fuel) w h l = done-turn fuel w h l (λ a i m. until-done fuel (again w a) i m)

-- a measure that the fuel is past
pub order-enough : (vs : List (List ℕ)) → length vs ≤ sequence_bytes vs + empty_vertices vs
unfolding sequence_bytes empty_vertices
order-enough [] = omega arith
order-enough ([] ∷ vs) = omega (arith, order-enough vs)
order-enough ((x ∷ xs) ∷ vs) = omega (arith, order-enough vs)

abbrev pub Good : Graph → Type 0
Good g = Sound g × Single g.edges
