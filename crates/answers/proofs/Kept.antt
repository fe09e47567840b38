-- What each of the five rewrites keeps, a whole simplification keeps.
-- Assumes nothing.
use Prim.Native.Nat.{ℕ, zero, suc, ◌+◌}
use mathlib.Core.Path.{◌≡◌, sym, ap, ◌∙◌}
use mathlib.Core.Option.{Option, some, some-injective}
use mathlib.Core.List.{List, [], ◌∷◌}
use lib.ListN.{length}
use Rattle.defs.specs.Lists.{keep_if, up_from, elem_of}
use Rattle.defs.specs.SeqGraph.{Graph, node_count, remap_numbers, Change, apply_change}
use Rattle.defs.specs.Zip.{Work, is_linear_chain_start, linear_chain, merge_linear_chain, zip_starts, zip_linear_chains}
use Rattle.defs.specs.Rewrites.{merges_diamond, diamond_change, try_merge_diamond, merges_tails, tails_change, try_merge_tails, splits_suffix}
use Rattle.defs.specs.Rewrites.{split_change, try_split_common_suffix, merges_suffices, merge_change, try_merge_common_suffices}
use Rattle.defs.specs.SeqGraph.{incoming_nodes}
use Rattle.defs.specs.Simplify.{first_at, transform_until_complete, Split, first_split, split_until_complete, simplify_graph_once, rounds_from}
use Rattle.defs.specs.Simplify.{simplify_graph_full, fuel_for}
use Rattle.laws.proofs.Walks.{by_test}
use Rattle.laws.proofs.ListLaws.{given-some}
use Rattle.laws.proofs.Whole.{by_option, by_list, again, first_at-some, until-zero, until_none, until-some, first_split-zero, first_split-tried}
use Rattle.laws.proofs.Whole.{first_split-none, first_split-some, no-some, split_all-zero, split_all-none, split_all-some, zip-nil, zip-cons}
use Rattle.laws.proofs.Whole.{zip-zero, zip_empty, rounds-end, rounds-turn}

-- kept by the change of each of the four rewrites, and by a chain that is joined
pub record KeptByEach (P : Graph → Type 0) : Type 0 where
  pub diamond : (g : Graph) (v : ℕ) → P g → P (apply_change g (diamond_change g v))
  pub tails : (g : Graph) (v : ℕ) → P g → P (apply_change g (tails_change g v))
  pub split : (g : Graph) (v : ℕ) → P g → P (apply_change g (split_change g v))
  pub merge : (g : Graph) (v : ℕ) → P g → P (apply_change g (merge_change g v (incoming_nodes g v)))
  pub zip : (g : Graph) (s : ℕ) (chain : List ℕ) → P g → P (merge_linear_chain g s chain)

module _ (P : Graph → Type 0) (each : KeptByEach P) where
  diamond-at : (g g' : Graph) (v : ℕ) → P g → try_merge_diamond g v ≡ some g' → P g'
  unfolding try_merge_diamond
  diamond-at g g' v h t = rw (given-some (merges_diamond g v) (apply_change g (diamond_change g v)) g' t).1 at (each.diamond g v h)

  tails-at : (least : ℕ) (g g' : Graph) (v : ℕ) → P g → try_merge_tails least g v ≡ some g' → P g'
  unfolding try_merge_tails
  tails-at least g g' v h t = rw (given-some (merges_tails least g v) (apply_change g (tails_change g v)) g' t).1 at (each.tails g v h)

  split_at : (g g' : Graph) (v : ℕ) → P g → try_split_common_suffix g v ≡ some g' → P g'
  unfolding try_split_common_suffix
  split_at g g' v h t = rw (given-some (splits_suffix g v) (apply_change g (split_change g v)) g' t).1 at (each.split g v h)

  merge-at : (g g' : Graph) (v : ℕ) → P g → try_merge_common_suffices g v ≡ some g' → P g'
  unfolding try_merge_common_suffices
  merge-at g g' v h t = rw (given-some (merges_suffices g v) (apply_change g (merge_change g v (incoming_nodes g v))) g' t).1 at (each.merge g v h)

  module _ (f : Graph → ℕ → Option Graph) (one : (g g' : Graph) (v : ℕ) → P g → f g v ≡ some g' → P g') where
    until-turn : (fuel : ℕ) (w : Work) → P w.graph → ((a : Graph) → P a → P (transform_until_complete f fuel (again w a)).graph)
        → P (transform_until_complete f (suc fuel) w).graph
    until-turn fuel w h ih = by_option (first_at (f w.graph) 0 (node_count w.graph))
        (λ t. rw (until_none f fuel w t) h)
        (λ a t. let i = first_at-some (f w.graph) 0 (node_count w.graph) a t in
        rw (until-some f fuel w a t) (ih a (one w.graph a i.0 h i.1)))

    until_end : (w : Work) → P w.graph → P (transform_until_complete f zero w).graph
    until_end w h = rw (until-zero f w) h

    until-kept : (fuel : ℕ) (w : Work) → P w.graph → P (transform_until_complete f fuel w).graph
    until-kept zero w h = until_end w h
    until-kept (suc fuel) w h = until-turn fuel w h (λ a s. until-kept fuel (again w a) s)

  first_split-kept : (g : Graph) (tried : List ℕ) (v n : ℕ) (s : Split) → P g → first_split g tried v n ≡ some s → P s.graph
  first_split-kept g tried v zero s h e = no-some (first_split-zero g tried v) e
  first_split-kept g tried v (suc n) s h e = by_test (elem_of v tried)
      (λ t. first_split-kept g tried (suc v) n s h (sym (first_split-tried g tried v n t) ∙ e))
      (λ t. by_option (try_split_common_suffix g v)
      (λ y. first_split-kept g (v ∷ tried) (suc v) n s h (sym (first_split-none g tried v n t y) ∙ e))
      (λ a y. split_at g s.graph v h (y ∙ ap some (ap (λ (s : Split). s.graph) (some-injective _ s (sym (first_split-some g tried v n a t y) ∙ e))))))

  splits-turn : (fuel : ℕ) (tried : List ℕ) (w : Work) → P w.graph
      → ((l : List ℕ) (a : Graph) → P a → P (split_until_complete fuel l (again w a)).graph)
      → P (split_until_complete (suc fuel) tried w).graph
  splits-turn fuel tried w h ih = by_option (first_split w.graph tried 0 (node_count w.graph))
      (λ t. rw (split_all-none fuel tried w t) h)
      (λ s t. rw (split_all-some fuel tried w s t) (ih s.tried s.graph (first_split-kept w.graph tried 0 (node_count w.graph) s h t)))

  splits-end : (tried : List ℕ) (w : Work) → P w.graph → P (split_until_complete zero tried w).graph
  splits-end tried w h = rw (split_all-zero tried w) h

  splits-kept : (fuel : ℕ) (tried : List ℕ) (w : Work) → P w.graph → P (split_until_complete fuel tried w).graph
  splits-kept zero tried w h = splits-end tried w h
  splits-kept (suc fuel) tried w h = splits-turn fuel tried w h (λ l a s. splits-kept fuel l (again w a) s)

  starts-turn : (fuel : ℕ) (s : ℕ) (ss : List ℕ) (w : Work) → P w.graph → P (zip_starts fuel ss w).graph
      → ((l : List ℕ) (a : Graph) → P a → P (zip_starts fuel l (again w a)).graph)
      → P (zip_starts (suc fuel) (s ∷ ss) w).graph
  starts-turn fuel s ss w h i₁ i₂ = by_list (linear_chain w.graph s)
      (λ t. rw (zip-nil fuel s ss w t) i₁)
      (λ v vs t. rw (zip-cons fuel s ss w v vs t) (i₂ (remap_numbers (v ∷ vs) ss) (merge_linear_chain w.graph s (v ∷ vs)) (each.zip w.graph s (v ∷ vs) h)))

  starts-end : (ss : List ℕ) (w : Work) → P w.graph → P (zip_starts zero ss w).graph
  starts-end ss w h = rw (zip-zero ss w) h

  starts_none : (fuel : ℕ) (w : Work) → P w.graph → P (zip_starts (suc fuel) [] w).graph
  starts_none fuel w h = rw (zip_empty fuel w) h

  starts-kept : (fuel : ℕ) (ss : List ℕ) (w : Work) → P w.graph → P (zip_starts fuel ss w).graph
  starts-kept zero ss w h = starts-end ss w h
  starts-kept (suc fuel) [] w h = starts_none fuel w h
  starts-kept (suc fuel) (s ∷ ss) w h = starts-turn fuel s ss w h (starts-kept fuel ss w h) (λ l a k. starts-kept fuel l (again w a) k)

  pub zip-kept : (w : Work) → P w.graph → P (zip_linear_chains w).graph
  unfolding zip_linear_chains
  zip-kept w h = starts-kept (length (keep_if (is_linear_chain_start w.graph) (up_from 0 (node_count w.graph))))
      (keep_if (is_linear_chain_start w.graph) (up_from 0 (node_count w.graph))) w h

  round-kept : (least : ℕ) (w : Work) → P w.graph → P (simplify_graph_once least w).graph
  unfolding simplify_graph_once
  round-kept least w h =
      let w₁ = transform_until_complete try_merge_diamond (fuel_for w.graph) w in
      let k₁ = until-kept try_merge_diamond diamond-at (fuel_for w.graph) w h in
      let w₂ = transform_until_complete (try_merge_tails least) (fuel_for w₁.graph) w₁ in
      let k₂ = until-kept (try_merge_tails least) (tails-at least) (fuel_for w₁.graph) w₁ k₁ in
      let w₃ = split_until_complete (fuel_for w₂.graph) [] w₂ in
      let k₃ = splits-kept (fuel_for w₂.graph) [] w₂ k₂ in
      let w₄ = transform_until_complete try_merge_common_suffices (fuel_for w₃.graph) w₃ in
      let k₄ = until-kept try_merge_common_suffices merge-at (fuel_for w₃.graph) w₃ k₃ in
      zip-kept w₄ k₄

  rounds-last : (least n : ℕ) (sig : List ℕ) (w : Work) → P w.graph → P (rounds_from least zero n sig w).graph
  rounds-last least n sig w h = rw (rounds-end least n sig w) h

  rounds-kept : (least remaining n : ℕ) (sig : List ℕ) (w : Work) → P w.graph → P (rounds_from least remaining n sig w).graph
  rounds-kept least zero n sig w h = rounds-last least n sig w h
  rounds-kept least (suc remaining) n sig w h =
      rounds-turn P least remaining n sig w (round-kept least w h) (λ m l. rounds-kept least remaining m l (simplify_graph_once least w) (round-kept least w h))

  pub simplify-kept : (least : ℕ) (g : Graph) → P g → P (simplify_graph_full least g).graph
  unfolding simplify_graph_full
  simplify-kept least g h =
      let w : Work = record { graph = g; rewrites = 0 } in
      rounds-kept least 100 0 [] (zip_linear_chains w) (zip-kept w h)
