-- A call that ends quiet leaves a graph in which nothing applies any more.
-- Assumes nothing.
use Prim.Native.Nat.{ℕ, zero, suc, ◌≤◌, ◌<◌}
use native.Mathlib.Omega.{arith}
use mathlib.Core.Path.{◌≡◌, refl, sym, ap, ◌∙◌}
use mathlib.Core.Logic.{⊎_elim}
use mathlib.Core.Bool.{Bool, true, false, ◌&&◌}
use mathlib.Core.Option.{Option}
use mathlib.Core.List.Memᴰ
use mathlib.Core.List.{List, [], ◌∷◌, Memᴰ}
use lib.Dec.{eqb, ltb}
use lib.ListN.{length}
use borrow.Author.Tests.{eqb-true}
use Rattle.defs.specs.Lists.{keep_if, up_from, same_list}
use Rattle.defs.specs.SeqGraph.{Graph, node_count, remap_numbers}
use Rattle.defs.specs.Zip.{Work, is_linear_chain_start, linear_chain, merge_linear_chain, zip_starts, zip_linear_chains}
use Rattle.defs.specs.Rewrites.{try_merge_diamond, try_merge_tails, try_split_common_suffix, try_merge_common_suffices}
use Rattle.defs.specs.Simplify.{first_at, transform_until_complete, first_split, split_until_complete, fuel_for, simplify_graph_once, rounds_from}
use Rattle.defs.specs.Simplify.{Simplified, simplified, graph_topology_signature, simplify_graph_full, quiet, repeated, full}
use Rattle.laws.proofs.Walks.{by_test}
use Rattle.laws.proofs.ListLaws.{mem-keep_if}
use Rattle.laws.proofs.Cycles.{mem-up_from}
use Rattle.laws.proofs.Measures.{weight, enough-is}
use Rattle.laws.proofs.Bound.{begun}
use Rattle.laws.proofs.Fuels.{Rests, rests, untried-from}
use Rattle.laws.proofs.Whole.{by_option, by_list, again, until-zero, until_none, until-some, split_all-zero, split_all-none}
use Rattle.laws.proofs.Whole.{split_all-some, zip-nil, zip-cons, zip-zero, zip_empty}

-- counts never fall
until-count-turn : (f : Graph → ℕ → Option Graph) (fuel : ℕ) (w : Work)
    → ((a : Graph) → suc w.rewrites ≤ (transform_until_complete f fuel (again w a)).rewrites)
    → w.rewrites ≤ (transform_until_complete f (suc fuel) w).rewrites
until-count-turn f fuel w ih = by_option (first_at (f w.graph) 0 (node_count w.graph)) (λ t. rw (until_none f fuel w t) (omega arith))
    (λ a t. rw (until-some f fuel w a t) (omega (arith, ih a)))

until-count : (f : Graph → ℕ → Option Graph) (fuel : ℕ) (w : Work) → w.rewrites ≤ (transform_until_complete f fuel w).rewrites
until-count f zero w = rw (until-zero f w) (omega arith)
until-count f (suc fuel) w = until-count-turn f fuel w (λ a. until-count f fuel (again w a))

splits-count-turn : (fuel : ℕ) (l : List ℕ) (w : Work) → ((k : List ℕ) (a : Graph)
    → suc w.rewrites ≤ (split_until_complete fuel k (again w a)).rewrites) → w.rewrites ≤ (split_until_complete (suc fuel) l w).rewrites
splits-count-turn fuel l w ih = by_option (first_split w.graph l 0 (node_count w.graph)) (λ t.
    rw (split_all-none fuel l w t) (omega arith)) (λ s t. rw (split_all-some fuel l w s t) (omega (arith, ih s.tried s.graph)))

splits-count : (fuel : ℕ) (l : List ℕ) (w : Work) → w.rewrites ≤ (split_until_complete fuel l w).rewrites
splits-count zero l w = rw (split_all-zero l w) (omega arith)
splits-count (suc fuel) l w = splits-count-turn fuel l w (λ k a. splits-count fuel k (again w a))

zip-count-turn : (fuel s : ℕ) (ss : List ℕ) (w : Work) → w.rewrites ≤ (zip_starts fuel ss w).rewrites
    → ((l : List ℕ) (a : Graph) → suc w.rewrites ≤ (zip_starts fuel l (again w a)).rewrites)
    → w.rewrites ≤ (zip_starts (suc fuel) (s ∷ ss) w).rewrites
zip-count-turn fuel s ss w i₁ i₂ = by_list (linear_chain w.graph s) (λ t. rw (zip-nil fuel s ss w t) i₁) (λ v vs t.
    rw (zip-cons fuel s ss w v vs t) (omega (arith, i₂ (remap_numbers (v ∷ vs) ss) (merge_linear_chain w.graph s (v ∷ vs)))))

zip-count : (fuel : ℕ) (ss : List ℕ) (w : Work) → w.rewrites ≤ (zip_starts fuel ss w).rewrites
zip-count zero ss w = rw (zip-zero ss w) (omega arith)
zip-count (suc fuel) [] w = rw (zip_empty fuel w) (omega arith)
zip-count (suc fuel) (s ∷ ss) w = zip-count-turn fuel s ss w (zip-count fuel ss w) (λ l a. zip-count fuel l (again w a))

-- a stage that made nothing
until-idle : (f : Graph → ℕ → Option Graph) (w : Work) → (transform_until_complete f (fuel_for w.graph) w).rewrites ≡ w.rewrites
    → (transform_until_complete f (fuel_for w.graph) w ≡ w) × Rests f w.graph
until-idle f w e = by_option (first_at (f w.graph) 0 (node_count w.graph))
    (λ t. (ap (λ n. transform_until_complete f n w) (enough-is w.graph) ∙ until_none f (weight w.graph) w t, rests f w.graph t))
    (λ a t. absurd (omega (
      arith,
      e,
      ap (λ n. (transform_until_complete f n w).rewrites) (enough-is w.graph),
      ap (λ (x : Work). x.rewrites) (until-some f (weight w.graph) w a t),
      until-count f (weight w.graph) (again w a),
    )))

splits-idle : (w : Work) → (split_until_complete (fuel_for w.graph) [] w).rewrites ≡ w.rewrites
    → (split_until_complete (fuel_for w.graph) [] w ≡ w) × Rests try_split_common_suffix w.graph
splits-idle w e = by_option (first_split w.graph [] 0 (node_count w.graph))
    (λ t. (
      ap (λ n. split_until_complete n [] w) (enough-is w.graph) ∙ split_all-none (weight w.graph) [] w t,
      λ v h.
          untried-from w.graph [] 0 (node_count w.graph) t v (omega arith) (omega arith) (unfold Rattle.defs.specs.Lists.elem_of in
          refl),
    ))
    (λ s t. absurd (omega (
      arith,
      e,
      ap (λ n. (split_until_complete n [] w).rewrites) (enough-is w.graph),
      ap (λ (x : Work). x.rewrites) (split_all-some (weight w.graph) [] w s t),
      splits-count (weight w.graph) s.tried (again w s.graph),
    )))

-- no chain of two vertices or more begins anywhere
abbrev pub NoChain : Graph → Type 0
NoChain g = (s : ℕ) → s < node_count g → linear_chain g s ≡ []

Idle : ℕ → List ℕ → Work → Type 0
Idle fuel ss w = (zip_starts fuel ss w ≡ w) × ((s : ℕ) → Memᴰ s ss → linear_chain w.graph s ≡ [])

starts-turn : (fuel s : ℕ) (ss : List ℕ) (w : Work) → (zip_starts (suc fuel) (s ∷ ss) w).rewrites ≡ w.rewrites
    → ((zip_starts fuel ss w).rewrites ≡ w.rewrites → Idle fuel ss w) → Idle (suc fuel) (s ∷ ss) w
unfolding Idle
starts-turn fuel s ss w e ih = by_list (linear_chain w.graph s)
    (λ t. let q = zip-nil fuel s ss w t in
    let r = ih (ap (λ (x : Work). x.rewrites) (sym q) ∙ e) in
    (q ∙ r.0, λ x m. ⊎_elim (λ (i : x ≡ s). ap (linear_chain w.graph) i ∙ t) (r.1 x) (Memᴰ.cases_cons m)))
    (λ v vs t. let a = merge_linear_chain w.graph s (v ∷ vs) in
    absurd (omega (arith, e, ap (λ (x : Work). x.rewrites) (zip-cons fuel s ss w v vs t), zip-count fuel (remap_numbers (v ∷ vs) ss) (again w a))))

starts-idle : (fuel : ℕ) (ss : List ℕ) (w : Work) → length ss ≤ fuel → (zip_starts fuel ss w).rewrites ≡ w.rewrites → Idle fuel ss w
unfolding Idle
starts-idle zero [] w l e = (zip-zero [] w, λ s m. absurd (Memᴰ.not-nil m))
starts-idle zero (s ∷ ss) w l e = absurd (omega arith)
starts-idle (suc fuel) [] w l e = (zip_empty fuel w, λ s m. absurd (Memᴰ.not-nil m))
starts-idle (suc fuel) (s ∷ ss) w l e = starts-turn fuel s ss w e (λ k. starts-idle fuel ss w (omega arith) k)

pub chain-none : (g : Graph) (s : ℕ) → is_linear_chain_start g s ≡ false → linear_chain g s ≡ []
unfolding linear_chain
chain-none g s t = by_test (ltb s (node_count g)) (λ u. rw (and-false (ltb s (node_count g)) (is_linear_chain_start g s) t, linear_chain)) (λ u.
    rw (and-false (ltb s (node_count g)) (is_linear_chain_start g s) t, linear_chain))
  where
    and-false : (a b : Bool) → b ≡ false → (a && b) ≡ false
    and-false true b e = e
    and-false false b e = refl

zip-idle : (w : Work) → (zip_linear_chains w).rewrites ≡ w.rewrites → (zip_linear_chains w ≡ w) × NoChain w.graph
unfolding zip_linear_chains Idle
zip-idle w e =
    let starts = keep_if (is_linear_chain_start w.graph) (up_from 0 (node_count w.graph)) in
    let r = starts-idle (length starts) starts w (omega arith) e in (
      r.0,
      λ s h. by_test (is_linear_chain_start w.graph s)
          (λ t. r.1 s (mem-keep_if (is_linear_chain_start w.graph) (mem-up_from 0 (node_count w.graph) s (omega arith) (omega arith)) t))
          (λ t. chain-none w.graph s t),
    )

-- nothing applies
pub record Still (least : ℕ) (g : Graph) : Type 0 where
  pub diamonds : Rests try_merge_diamond g
  pub tails : Rests (try_merge_tails least) g
  pub splits : Rests try_split_common_suffix g
  pub merges : Rests try_merge_common_suffices g
  pub chains : NoChain g

pub round-idle : (least : ℕ) (w : Work) → (simplify_graph_once least w).rewrites ≡ w.rewrites → (simplify_graph_once least w ≡ w) × Still least w.graph
unfolding simplify_graph_once
round-idle least w e =
    let w₁ = transform_until_complete try_merge_diamond (fuel_for w.graph) w in
    let w₂ = transform_until_complete (try_merge_tails least) (fuel_for w₁.graph) w₁ in
    let w₃ = split_until_complete (fuel_for w₂.graph) [] w₂ in
    let w₄ = transform_until_complete try_merge_common_suffices (fuel_for w₃.graph) w₃ in
    let c₁ = until-count try_merge_diamond (fuel_for w.graph) w in
    let c₂ = until-count (try_merge_tails least) (fuel_for w₁.graph) w₁ in
    let c₃ = splits-count (fuel_for w₂.graph) [] w₂ in
    let c₄ = until-count try_merge_common_suffices (fuel_for w₃.graph) w₃ in
    let c₅ : w₄.rewrites ≤ (zip_linear_chains w₄).rewrites = unfold zip_linear_chains in (zip-count _ _ w₄) in
    let k₁ = until-idle try_merge_diamond w (omega (arith, e, c₁, c₂, c₃, c₄, c₅)) in
    let k₂ = until-idle (try_merge_tails least) w₁ (omega (arith, e, c₁, c₂, c₃, c₄, c₅)) in
    let k₃ = splits-idle w₂ (omega (arith, e, c₁, c₂, c₃, c₄, c₅)) in
    let k₄ = until-idle try_merge_common_suffices w₃ (omega (arith, e, c₁, c₂, c₃, c₄, c₅)) in
    let k₅ = zip-idle w₄ (omega (arith, e, c₁, c₂, c₃, c₄, c₅)) in
    let q₂ = k₂.0 ∙ k₁.0 in
    let q₃ = k₃.0 ∙ q₂ in
    let q₄ = k₄.0 ∙ q₃ in (
      k₅.0 ∙ q₄,
      record {
        diamonds = k₁.1;
        tails = at-graph (Rests (try_merge_tails least)) w₁ w k₁.0 k₂.1;
        splits = at-graph (Rests try_split_common_suffix) w₂ w q₂ k₃.1;
        merges = at-graph (Rests try_merge_common_suffices) w₃ w q₃ k₄.1;
        chains = at-graph NoChain w₄ w q₄ k₅.1;
      },
    )
  where
    at-graph : (P : Graph → Type 0) (a b : Work) → a ≡ b → P a.graph → P b.graph
    at-graph P a b q p = rw q at p

-- the end
quiet-full : {X : Type 0} → full ≡ quiet → X
quiet-full e = absurd (omega (arith, bad))
  where
    bad : ◌≡◌ {A = ℕ} 0 1
    bad = cc

quiet-repeated : {X : Type 0} → repeated ≡ quiet → X
quiet-repeated e = absurd (omega (arith, bad))
  where
    bad : ◌≡◌ {A = ℕ} 0 1
    bad = cc

abbrev Calm : ℕ → Simplified → Type 0
Calm least r = r.end ≡ quiet → Still least r.graph

calm-turn : (least remaining n : ℕ) (sig : List ℕ) (w : Work)
    → ((m : ℕ) (l : List ℕ) → Calm least (rounds_from least remaining m l (simplify_graph_once least w)))
    → Calm least (rounds_from least (suc remaining) n sig w)
unfolding rounds_from simplified
calm-turn least remaining n sig w ih = by_test (eqb (simplify_graph_once least w).rewrites w.rewrites)
    (λ t. rw (t, rounds_from) (λ _. let z = round-idle least w (eqb-true _ _ t) in still-at (sym z.0) z.1))
    (λ t. by_test (ltb n 6)
    (λ s. rw (t, rounds_from) (rw s (ih (suc n) sig)))
    (λ s. by_test (same_list sig (graph_topology_signature (simplify_graph_once least w).graph))
    (λ e. rw (t, rounds_from) (rw s (rw e quiet-repeated)))
    (λ e. rw (t, rounds_from) (rw s (rw e (ih (suc n) (graph_topology_signature (simplify_graph_once least w).graph)))))))
  where
    still-at : {a b : Work} → a ≡ b → Still least a.graph → Still least b.graph
    still-at q p = rw q at p

calm-end : (least n : ℕ) (sig : List ℕ) (w : Work) → Calm least (rounds_from least zero n sig w)
unfolding rounds_from simplified
calm-end least n sig w = quiet-full

rounds-calm : (least remaining n : ℕ) (sig : List ℕ) (w : Work) → Calm least (rounds_from least remaining n sig w)
rounds-calm least zero n sig w = calm-end least n sig w
rounds-calm least (suc remaining) n sig w = calm-turn least remaining n sig w (λ m l. rounds-calm least remaining m l (simplify_graph_once least w))

pub simplify-quiet : (least : ℕ) (g : Graph) → (simplify_graph_full least g).end ≡ quiet → Still least (simplify_graph_full least g).graph
unfolding simplify_graph_full
simplify-quiet least g = rounds-calm least 100 0 [] (zip_linear_chains (begun g))
