-- The fuel is enough for each loop of a round: it stops because no vertex allows the transform any more.
-- Assumes nothing.
use Prim.Native.Nat.{ℕ, zero, suc, ◌+◌, ◌≤◌, ◌<◌}
use native.Mathlib.Omega.{arith}
use mathlib.Core.Path.{◌≡◌, sym, ap, ◌∙◌}
use mathlib.Core.Bool.{false}
use mathlib.Core.Option.{Option, none, some}
use mathlib.Core.List.{List, ◌∷◌}
use borrow.Author.Tests.{ne_eqb}
use Rattle.defs.specs.Lists.{elem_of}
use Rattle.defs.specs.SeqGraph.{Graph, node_count}
use Rattle.defs.specs.Zip.{Work}
use Rattle.defs.specs.Rewrites.{try_merge_diamond, try_merge_tails, try_split_common_suffix, try_merge_common_suffices}
use Rattle.defs.specs.Simplify.{first_at, transform_until_complete, Split, first_split, split_until_complete, fuel_for}
use Rattle.laws.proofs.Walks.{by_test}
use Rattle.laws.proofs.ListLaws.{by_order}
use Rattle.laws.proofs.Fuel.{Good, until-done}
use Rattle.laws.proofs.Measures.{weight, order-weight, enough-is, diamond-tame, tails-tame, merge-tame}
use Rattle.laws.proofs.Whole.{by_option, again, no-some, split_all-none, split_all-some, first_split-tried, first_split-none, first_split-some}
use Rattle.laws.proofs.Bound.{first_split-tame}

-- no vertex of the graph allows the transform
abbrev pub Rests : (Graph → ℕ → Option Graph) → Graph → Type 0
Rests f g = (v : ℕ) → v < node_count g → f g v ≡ none

first_at-none : (f : ℕ → Option Graph) (i n : ℕ) → first_at f i n ≡ none → (v : ℕ) → i ≤ v → v < i + n → f v ≡ none
unfolding first_at
first_at-none f i zero e v a b = absurd (omega arith)
first_at-none f i (suc n) e v a b = by_option (f i)
    (λ t. by_order v i (λ h. let q : v ≡ i = omega arith in ap f q ∙ t) (λ h. first_at-none f (suc i) n (rw (t, first_at) at e) v h (omega arith)))
    (λ x t. no-some {a = x} e (rw (t, first_at)))

pub rests : (f : Graph → ℕ → Option Graph) (g : Graph) → first_at (f g) 0 (node_count g) ≡ none → Rests f g
rests f g e v h = first_at-none (f g) 0 (node_count g) e v (omega arith) (omega arith)

pub diamonds-rest : (w : Work) → Good w.graph → Rests try_merge_diamond (transform_until_complete try_merge_diamond (fuel_for w.graph) w).graph
unfolding Rattle.laws.proofs.Fuel.Done
diamonds-rest w h =
    rests try_merge_diamond _ (until-done try_merge_diamond Good weight (λ g g' v k d. let z = diamond-tame g g' v k d in (z.0.good, z.2))
    (fuel_for w.graph) w h (omega (arith, enough-is w.graph))).1

pub tails-rest : (least : ℕ) → 3 < least → (w : Work) → Good w.graph
    → Rests (try_merge_tails least) (transform_until_complete (try_merge_tails least) (fuel_for w.graph) w).graph
unfolding Rattle.laws.proofs.Fuel.Done
tails-rest least pos w h =
    rests (try_merge_tails least) _ (until-done (try_merge_tails least) Good weight (λ g g' v k d. let z = tails-tame least pos g g' v k d in
    (z.0.good, z.2)) (fuel_for w.graph) w h (omega (arith, enough-is w.graph))).1

pub merges-rest : (w : Work) → Good w.graph → Rests try_merge_common_suffices (transform_until_complete try_merge_common_suffices (fuel_for w.graph) w).graph
unfolding Rattle.laws.proofs.Fuel.Done
merges-rest w h =
    rests try_merge_common_suffices _ (until-done try_merge_common_suffices Good node_count (λ g g' v k d. let z = merge-tame g g' v k d in
    (z.0.good, z.1)) (fuel_for w.graph) w h (omega (arith, enough-is w.graph, order-weight w.graph))).1

-- splits: none among the vertices that were not tried
abbrev pub Untried : Graph → List ℕ → Type 0
Untried g tried = (v : ℕ) → v < node_count g → elem_of v tried ≡ false → try_split_common_suffix g v ≡ none

not-elem : (v i : ℕ) (tried : List ℕ) → (v ≡ i → ⊥) → elem_of v tried ≡ false → elem_of v (i ∷ tried) ≡ false
unfolding elem_of
not-elem v i tried n e = rw (ne_eqb v i n, elem_of) e

pub untried-from : (g : Graph) (tried : List ℕ) (i n : ℕ) → first_split g tried i n ≡ none → (v : ℕ) → i ≤ v → v < i + n → elem_of v tried
    ≡ false → try_split_common_suffix g v ≡ none
untried-from g tried i zero e v a b u = absurd (omega arith)
untried-from g tried i (suc n) e v a b u = by_order v i
    (λ h. let q : v ≡ i = omega arith in
    let u' : elem_of i tried ≡ false = ap (λ x. elem_of x tried) (sym q) ∙ u in
    by_option (try_split_common_suffix g i) (λ t. ap (try_split_common_suffix g) q ∙ t) (λ x t. no-some e (first_split-some g tried i n x u' t)))
    (λ h. by_test (elem_of i tried)
    (λ t. untried-from g tried (suc i) n (sym (first_split-tried g tried i n t) ∙ e) v h (omega arith) u)
    (λ t. by_option (try_split_common_suffix g i)
    (λ y. untried-from g (i ∷ tried) (suc i) n (sym (first_split-none g tried i n t y) ∙ e) v h (omega arith) (not-elem v i tried (λ q. omega arith) u))
    (λ x y. no-some e (first_split-some g tried i n x t y))))

-- the turns of the loop, with the vertices tried
pub data Turns : List ℕ → Work → List ℕ → Work → Type 0 where
  over : {l : List ℕ} {w : Work} → Turns l w l w
  turn : {l : List ℕ} {w : Work} {s : Split} {l' : List ℕ} {w' : Work} → first_split w.graph l 0 (node_count w.graph) ≡ some s
      → Turns s.tried (again w s.graph) l' w' → Turns l w l' w'

-- the loop ends with vertices tried such that no other allows a split
abbrev pub SplitsRest : List ℕ → Work → Work → Type 0
SplitsRest l w w' = (l' : List ℕ) × Turns l w l' w' × Untried w'.graph l'

splits-turn : (top fuel : ℕ) (tried : List ℕ) (w : Work) → Good w.graph → weight w.graph ≤ top → top < node_count w.graph + suc fuel
    → ((l : List ℕ) (a : Graph) → Good a → weight a ≤ top → top < node_count a + fuel
    → SplitsRest l (again w a) (split_until_complete fuel l (again w a))) → SplitsRest tried w (split_until_complete (suc fuel) tried w)
splits-turn top fuel tried w h l n ih = by_option (first_split w.graph tried 0 (node_count w.graph))
    (λ t. rw (split_all-none fuel tried w t) (tried, over, λ v b u. untried-from w.graph tried 0 (node_count w.graph) t v (omega arith) (omega arith) u))
    (λ s t. let z = first_split-tame w.graph tried 0 (node_count w.graph) s h t in
    let r = ih s.tried s.graph z.0.good (omega (arith, z.0.light)) (omega (arith, z.1)) in
    rw (split_all-some fuel tried w s t) (r.0, turn t r.1, r.2))

splits-all : (top fuel : ℕ) (tried : List ℕ) (w : Work) → Good w.graph → weight w.graph ≤ top → top < node_count w.graph + fuel
    → SplitsRest tried w (split_until_complete fuel tried w)
splits-all top zero tried w h l n = absurd (omega (arith, order-weight w.graph))
splits-all top (suc fuel) tried w h l n = splits-turn top fuel tried w h l n (λ s a g b m. splits-all top fuel s (again w a) g b m)

pub splits-rest : (tried : List ℕ) (w : Work) → Good w.graph → SplitsRest tried w (split_until_complete (fuel_for w.graph) tried w)
splits-rest tried w h = splits-all (weight w.graph) (fuel_for w.graph) tried w h (omega arith) (omega (arith, enough-is w.graph))
