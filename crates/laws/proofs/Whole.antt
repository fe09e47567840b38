-- The whole call keeps the strings.
-- Assumes nothing.
use Prim.Native.Nat.{ℕ, zero, suc, ◌+◌, ◌≤◌, ◌<◌}
use native.Mathlib.Omega.{arith}
use mathlib.Core.Path.{◌≡◌, refl, sym, ap, ◌∙◌}
use mathlib.Core.Logic.{◌↔◌}
use mathlib.Core.Bool.{Bool, true, false, ◌&&◌}
use mathlib.Core.Option.{Option, none, some, some-injective}
use mathlib.Core.List.{List, [], ◌∷◌}
use lib.Dec.{eqb, ltb}
use lib.ListN.{length}
use Rattle.defs.specs.Lists.{keep_if, up_from, elem_of, same_list}
use Rattle.defs.specs.SeqGraph.{Graph, node_count, incoming_nodes, remap_numbers}
use Rattle.defs.specs.Zip.{Work, is_linear_chain_start, linear_chain, trace_linear_chain, merge_linear_chain, zip_starts, zip_linear_chains}
use Rattle.defs.specs.Rewrites.{try_merge_diamond, try_merge_tails, try_split_common_suffix, try_merge_common_suffices}
use Rattle.defs.specs.Simplify.{first_at, transform_until_complete, Split, first_split, split_until_complete, simplify_graph_once, rounds_from}
use Rattle.defs.specs.Simplify.{simplified, graph_topology_signature, simplify_graph_full, fuel_for, min_tail_suffix_len}
use Rattle.defs.specs.Strings.{Spells}
use Rattle.laws.proofs.Walks.{by_test}
use Rattle.laws.proofs.Sound.{Sound, Keeps, keeps_same, keeps_then}
use Rattle.laws.proofs.Diamonds.{diamond-keeps, tails-keeps}
use Rattle.laws.proofs.Splits.{split-keeps'}
use Rattle.laws.proofs.Merge.{merge-keeps'}
use Rattle.laws.proofs.ZipLaws.{Chained, zip-keeps, chained-after}

pub by_option : {A X : Type 0} (o : Option A) → (o ≡ none → X) → ((a : A) → o ≡ some a → X) → X
by_option none k h = k refl
by_option (some a) k h = h a refl

pub by_list : {A X : Type 0} (l : List A) → (l ≡ [] → X) → ((a : A) (r : List A) → l ≡ a ∷ r → X) → X
by_list [] k h = k refl
by_list (a ∷ r) k h = h a r refl

pub first_at-some : (f : ℕ → Option Graph) (v n : ℕ) (g : Graph) → first_at f v n ≡ some g → (w : ℕ) × (f w ≡ some g)
unfolding first_at
first_at-some f v zero g e = absurd (omega (arith, bad))
  where
    bad : ◌≡◌ {A = ℕ} 0 1
    bad = cc
first_at-some f v (suc n) g e = by_option (f v) (λ t. first_at-some f (suc v) n g (rw (t, first_at) at e)) (λ a t. (v, t ∙ (rw (t, first_at) at e)))

-- the clauses of `until_complete`, as equations
abbrev pub again : Work → Graph → Work
again w a = record { graph = a; rewrites = suc w.rewrites }

pub until-zero : (f : Graph → ℕ → Option Graph) (w : Work) → transform_until_complete f zero w ≡ w
unfolding transform_until_complete
until-zero f w = refl

pub until_none : (f : Graph → ℕ → Option Graph) (fuel : ℕ) (w : Work) → first_at (f w.graph) 0 (node_count w.graph) ≡ none
    → transform_until_complete f (suc fuel) w ≡ w
unfolding transform_until_complete
until_none f fuel w t = rw (t, transform_until_complete)

pub until-some : (f : Graph → ℕ → Option Graph) (fuel : ℕ) (w : Work) (a : Graph) → first_at (f w.graph) 0 (node_count w.graph) ≡ some a
    → transform_until_complete f (suc fuel) w ≡ transform_until_complete f fuel (again w a)
unfolding transform_until_complete
until-some f fuel w a t = rw (t, transform_until_complete)

-- one turn: a definition of its own, so that the kernel does not compute with it where it confirms the recursion's clauses
pub until-turn : (f : Graph → ℕ → Option Graph) → ((g g' : Graph) (v : ℕ) → Sound g → f g v ≡ some g' → Keeps g g') → (fuel : ℕ) (w : Work) → Sound w.graph
    → ((a : Graph) → Sound a → Keeps a (transform_until_complete f fuel (again w a)).graph) → Keeps w.graph (transform_until_complete f (suc fuel) w).graph
until-turn f k fuel w h ih = by_option (first_at (f w.graph) 0 (node_count w.graph))
    (λ t. rw (until_none f fuel w t) (keeps_same w.graph h))
    (λ a t. let i = first_at-some (f w.graph) 0 (node_count w.graph) a t in
    let z = k w.graph a i.0 h i.1 in
    rw (until-some f fuel w a t) (keeps_then z (ih a z.sound)))

pub until_end : (f : Graph → ℕ → Option Graph) (w : Work) → Sound w.graph → Keeps w.graph (transform_until_complete f zero w).graph
until_end f w h = rw (until-zero f w) (keeps_same w.graph h)

pub until-keeps : (f : Graph → ℕ → Option Graph) → ((g g' : Graph) (v : ℕ) → Sound g → f g v ≡ some g' → Keeps g g') → (fuel : ℕ) (w : Work)
    → Sound w.graph → Keeps w.graph (transform_until_complete f fuel w).graph
until-keeps f k zero w h = until_end f w h
until-keeps f k (suc fuel) w h = until-turn f k fuel w h (λ a s. until-keeps f k fuel (again w a) s)

-- splits
pub first_split-tried : (g : Graph) (tried : List ℕ) (v n : ℕ) → elem_of v tried ≡ true → first_split g tried v (suc n) ≡ first_split g tried (suc v) n
unfolding first_split
first_split-tried g tried v n t = rw (t, first_split)

pub first_split-none : (g : Graph) (tried : List ℕ) (v n : ℕ) → elem_of v tried ≡ false → try_split_common_suffix g v ≡ none
    → first_split g tried v (suc n) ≡ first_split g (v ∷ tried) (suc v) n
unfolding first_split
first_split-none g tried v n t y = rw (t, first_split) (rw y)

pub first_split-some : (g : Graph) (tried : List ℕ) (v n : ℕ) (a : Graph) → elem_of v tried ≡ false → try_split_common_suffix g v ≡ some a
    → first_split g tried v (suc n) ≡ some record { graph = a; tried = remap_numbers (incoming_nodes g v) (v ∷ tried) }
unfolding first_split
first_split-some g tried v n a t y = rw (t, first_split) (rw y)

pub first_split-zero : (g : Graph) (tried : List ℕ) (v : ℕ) → first_split g tried v zero ≡ none
unfolding first_split
first_split-zero g tried v = refl

pub no-some : {A X : Type 0} {o : Option A} {a : A} → o ≡ none → o ≡ some a → X
no-some e f = absurd (omega (arith, bad))
  where
    bad : ◌≡◌ {A = ℕ} 0 1
    bad = cc

pub first_split-keeps : (g : Graph) (tried : List ℕ) (v n : ℕ) (s : Split) → Sound g → first_split g tried v n ≡ some s → Keeps g s.graph
first_split-keeps g tried v zero s h e = no-some (first_split-zero g tried v) e
first_split-keeps g tried v (suc n) s h e = by_test (elem_of v tried)
    (λ t. first_split-keeps g tried (suc v) n s h (sym (first_split-tried g tried v n t) ∙ e))
    (λ t. by_option (try_split_common_suffix g v)
    (λ y. first_split-keeps g (v ∷ tried) (suc v) n s h (sym (first_split-none g tried v n t y) ∙ e))
    (λ a y. split-keeps' g s.graph v h (y ∙ ap some (ap (λ (s : Split).
    s.graph) (some-injective _ s (sym (first_split-some g tried v n a t y) ∙ e))))))

pub split_all-zero : (tried : List ℕ) (w : Work) → split_until_complete zero tried w ≡ w
unfolding split_until_complete
split_all-zero tried w = refl

pub split_all-none : (fuel : ℕ) (tried : List ℕ) (w : Work) → first_split w.graph tried 0 (node_count w.graph) ≡ none
    → split_until_complete (suc fuel) tried w ≡ w
unfolding split_until_complete
split_all-none fuel tried w t = rw (t, split_until_complete)

pub split_all-some : (fuel : ℕ) (tried : List ℕ) (w : Work) (s : Split) → first_split w.graph tried 0 (node_count w.graph) ≡ some s
    → split_until_complete (suc fuel) tried w ≡ split_until_complete fuel s.tried (again w s.graph)
unfolding split_until_complete
split_all-some fuel tried w s t = rw (t, split_until_complete)

pub split_all-end : (tried : List ℕ) (w : Work) → Sound w.graph → Keeps w.graph (split_until_complete zero tried w).graph
split_all-end tried w h = rw (split_all-zero tried w) (keeps_same w.graph h)

pub split_all-turn : (fuel : ℕ) (tried : List ℕ) (w : Work) → Sound w.graph
    → ((l : List ℕ) (a : Graph) → Sound a → Keeps a (split_until_complete fuel l (again w a)).graph)
    → Keeps w.graph (split_until_complete (suc fuel) tried w).graph
split_all-turn fuel tried w h ih = by_option (first_split w.graph tried 0 (node_count w.graph))
    (λ t. rw (split_all-none fuel tried w t) (keeps_same w.graph h))
    (λ s t. let z = first_split-keeps w.graph tried 0 (node_count w.graph) s h t in
    rw (split_all-some fuel tried w s t) (keeps_then z (ih s.tried s.graph z.sound)))

pub split_all-keeps : (fuel : ℕ) (tried : List ℕ) (w : Work) → Sound w.graph → Keeps w.graph (split_until_complete fuel tried w).graph
split_all-keeps zero tried w h = split_all-end tried w h
split_all-keeps (suc fuel) tried w h = split_all-turn fuel tried w h (λ l a s. split_all-keeps fuel l (again w a) s)

-- zip
pub zip-nil : (fuel : ℕ) (s : ℕ) (ss : List ℕ) (w : Work) → linear_chain w.graph s ≡ [] → zip_starts (suc fuel) (s ∷ ss) w ≡ zip_starts fuel ss w
unfolding zip_starts
zip-nil fuel s ss w t = rw (t, zip_starts)

pub zip-cons : (fuel : ℕ) (s : ℕ) (ss : List ℕ) (w : Work) (v : ℕ) (vs : List ℕ) → linear_chain w.graph s ≡ v ∷ vs
    → zip_starts (suc fuel) (s ∷ ss) w ≡ zip_starts fuel (remap_numbers (v ∷ vs) ss) (again w (merge_linear_chain w.graph s (v ∷ vs)))
unfolding zip_starts
zip-cons fuel s ss w v vs t = rw (t, zip_starts)

pub zip-zero : (ss : List ℕ) (w : Work) → zip_starts zero ss w ≡ w
unfolding zip_starts
zip-zero ss w = refl

pub zip_empty : (fuel : ℕ) (w : Work) → zip_starts (suc fuel) [] w ≡ w
unfolding zip_starts
zip_empty fuel w = refl

pub chained-from : (g : Graph) (s : ℕ) → Chained g s (linear_chain g s)
unfolding linear_chain
chained-from g s = by_test (ltb s (node_count g) && is_linear_chain_start g s) (λ t. rw (t, linear_chain) (chained-after g (node_count g) s)) (λ t.
    rw (t, linear_chain) tt)

pub zip_turn : (fuel : ℕ) (s : ℕ) (ss : List ℕ) (w : Work) → Sound w.graph → Keeps w.graph (zip_starts fuel ss w).graph
    → ((l : List ℕ) (a : Graph) → Sound a → Keeps a (zip_starts fuel l (again w a)).graph)
    → Keeps w.graph (zip_starts (suc fuel) (s ∷ ss) w).graph
zip_turn fuel s ss w h i₁ i₂ = by_list (linear_chain w.graph s)
    (λ t. rw (zip-nil fuel s ss w t) i₁)
    (λ v vs t. let z = zip-keeps w.graph h.bounded h.rank h.ranks s v vs (rw t at (chained-from w.graph s)) in
    rw (zip-cons fuel s ss w v vs t) (keeps_then z (i₂ (remap_numbers (v ∷ vs) ss) (merge_linear_chain w.graph s (v ∷ vs)) z.sound)))

pub zip-end₁ : (ss : List ℕ) (w : Work) → Sound w.graph → Keeps w.graph (zip_starts zero ss w).graph
zip-end₁ ss w h = rw (zip-zero ss w) (keeps_same w.graph h)

pub zip-end₂ : (fuel : ℕ) (w : Work) → Sound w.graph → Keeps w.graph (zip_starts (suc fuel) [] w).graph
zip-end₂ fuel w h = rw (zip_empty fuel w) (keeps_same w.graph h)

pub zip_starts-keeps : (fuel : ℕ) (ss : List ℕ) (w : Work) → Sound w.graph → Keeps w.graph (zip_starts fuel ss w).graph
zip_starts-keeps zero ss w h = zip-end₁ ss w h
zip_starts-keeps (suc fuel) [] w h = zip-end₂ fuel w h
zip_starts-keeps (suc fuel) (s ∷ ss) w h = zip_turn fuel s ss w h (zip_starts-keeps fuel ss w h) (λ l a k. zip_starts-keeps fuel l (again w a) k)

pub zip-all : (w : Work) → Sound w.graph → Keeps w.graph (zip_linear_chains w).graph
unfolding zip_linear_chains
zip-all w h = zip_starts-keeps (length (keep_if (is_linear_chain_start w.graph) (up_from 0 (node_count w.graph))))
    (keep_if (is_linear_chain_start w.graph) (up_from 0 (node_count w.graph))) w h

pub round_keeps : (least : ℕ) → 0 < least → (w : Work) → Sound w.graph → Keeps w.graph (simplify_graph_once least w).graph
unfolding simplify_graph_once
round_keeps least pos w h =
    let w₁ = transform_until_complete try_merge_diamond (fuel_for w.graph) w in
    let k₁ = until-keeps try_merge_diamond diamond-keeps (fuel_for w.graph) w h in
    let w₂ = transform_until_complete (try_merge_tails least) (fuel_for w₁.graph) w₁ in
    let k₂ = until-keeps (try_merge_tails least) (tails-keeps least pos) (fuel_for w₁.graph) w₁ k₁.sound in
    let w₃ = split_until_complete (fuel_for w₂.graph) [] w₂ in
    let k₃ = split_all-keeps (fuel_for w₂.graph) [] w₂ k₂.sound in
    let w₄ = transform_until_complete try_merge_common_suffices (fuel_for w₃.graph) w₃ in
    let k₄ = until-keeps try_merge_common_suffices merge-keeps' (fuel_for w₃.graph) w₃ k₃.sound in
    keeps_then (keeps_then (keeps_then (keeps_then k₁ k₂) k₃) k₄) (zip-all w₄ k₄.sound)

-- the rounds: the result's graph is that of the last round, or that of the rounds that follow
pub rounds-end : (least n : ℕ) (sig : List ℕ) (w : Work) → (rounds_from least zero n sig w).graph ≡ w.graph
unfolding rounds_from simplified
rounds-end least n sig w = refl

pub rounds-turn : (P : Graph → Type 0) (least remaining n : ℕ) (sig : List ℕ) (w : Work) → P (simplify_graph_once least w).graph
    → ((m : ℕ) (l : List ℕ) → P (rounds_from least remaining m l (simplify_graph_once least w)).graph)
    → P (rounds_from least (suc remaining) n sig w).graph
unfolding rounds_from simplified
rounds-turn P least remaining n sig w p q = by_test (eqb (simplify_graph_once least w).rewrites w.rewrites)
    (λ t. rw (t, rounds_from) p)
    (λ t. by_test (ltb n 6)
    (λ s. rw (t, rounds_from) (rw s (q (suc n) sig)))
    (λ s. by_test (same_list sig (graph_topology_signature (simplify_graph_once least w).graph))
    (λ e. rw (t, rounds_from) (rw s (rw e p)))
    (λ e. rw (t, rounds_from) (rw s (rw e (q (suc n) (graph_topology_signature (simplify_graph_once least w).graph)))))))

pub rounds-stop : (least n : ℕ) (sig : List ℕ) (w : Work) → Sound w.graph → Keeps w.graph (rounds_from least zero n sig w).graph
rounds-stop least n sig w h = rw (rounds-end least n sig w) (keeps_same w.graph h)

pub rounds-next : (least : ℕ) → 0 < least → (remaining n : ℕ) (sig : List ℕ) (w : Work) → Sound w.graph
    → ((m : ℕ) (l : List ℕ) → Sound (simplify_graph_once least w).graph
    → Keeps (simplify_graph_once least w).graph (rounds_from least remaining m l (simplify_graph_once least w)).graph)
    → Keeps w.graph (rounds_from least (suc remaining) n sig w).graph
rounds-next least pos remaining n sig w h ih =
    let k = round_keeps least pos w h in
    rounds-turn (Keeps w.graph) least remaining n sig w k (λ m l. keeps_then k (ih m l k.sound))

pub rounds-keeps : (least : ℕ) → 0 < least → (remaining n : ℕ) (sig : List ℕ) (w : Work) → Sound w.graph
    → Keeps w.graph (rounds_from least remaining n sig w).graph
rounds-keeps least pos zero n sig w h = rounds-stop least n sig w h
rounds-keeps least pos (suc remaining) n sig w h = rounds-next least pos remaining n sig w h (λ m l s.
    rounds-keeps least pos remaining m l (simplify_graph_once least w) s)

-- THE WHOLE CALL: simplification keeps the strings of a graph without cycles
pub simplify-keeps : (g : Graph) → Sound g → Keeps g (simplify_graph_full min_tail_suffix_len g).graph
unfolding simplify_graph_full
simplify-keeps g h =
    let w : Work = record { graph = g; rewrites = 0 } in
    let k = zip-all w h in
    keeps_then k (rounds-keeps min_tail_suffix_len (omega arith) 100 0 [] (zip_linear_chains w) k.sound)

pub simplify-spells : (g : Graph) → Sound g → (s : List ℕ) → Spells g s ↔ Spells (simplify_graph_full min_tail_suffix_len g).graph s
simplify-spells g h s = (simplify-keeps g h).spells s
