-- Over the whole call: no edge is doubled, neither the weight nor the room needed rises, and the rewrites are at most 202 times the weight.
-- Assumes nothing.
use Prim.Native.Nat.{ℕ, zero, suc, ◌+◌, ◌*◌, ◌≤◌, ◌<◌}
use native.Mathlib.Omega.{arith}
use mathlib.Core.Path.{◌≡◌, sym, ap, ◌∙◌}
use mathlib.Core.Option.{Option, some, some-injective}
use mathlib.Core.List.{List, [], ◌∷◌}
use lib.Dec.{eqb, ltb}
use lib.ListN.{length}
use Rattle.defs.specs.Lists.{keep_if, up_from, elem_of, same_list}
use Rattle.defs.specs.SeqGraph.{Graph, node_count, remap_numbers}
use Rattle.defs.specs.Zip.{Work, is_linear_chain_start, linear_chain, merge_linear_chain, zip_starts, zip_linear_chains}
use Rattle.defs.specs.Rewrites.{try_merge_diamond, try_merge_tails, try_split_common_suffix, try_merge_common_suffices}
use Rattle.defs.specs.Simplify.{first_at, transform_until_complete, Split, first_split, split_until_complete, simplify_graph_once, rounds_from}
use Rattle.defs.specs.Simplify.{simplified, graph_topology_signature, simplify_graph_full, fuel_for}
use Rattle.laws.proofs.Walks.{by_test}
use Rattle.laws.proofs.Fuel.{Good}
use Rattle.laws.proofs.Measures.{weight, load, order-weight, Tame, tame-same, tame-then, diamond-tame, tails-tame, split-tame, merge-tame, zip-tame}
use Rattle.laws.proofs.Whole.{by_option, by_list, again, first_at-some, until-zero, until_none, until-some, first_split-zero}
use Rattle.laws.proofs.Whole.{first_split-tried, first_split-none, first_split-some, no-some, split_all-zero, split_all-none}
use Rattle.laws.proofs.Whole.{split_all-some, zip-nil, zip-cons, zip-zero, zip_empty, chained-from}

-- work that is paid for: each rewrite takes one at least of μ
pub record Paid (μ : Graph → ℕ) (w w' : Work) : Type 0 where
  pub tame : Tame w.graph w'.graph
  pub paid : w'.rewrites + μ w'.graph ≤ w.rewrites + μ w.graph

pub paid-same : (μ : Graph → ℕ) (w : Work) → Good w.graph → Paid μ w w
paid-same μ w h = record { tame = tame-same w.graph h; paid = omega arith }

-- one rewrite, and what follows it
pub paid-next : (μ : Graph → ℕ) (w : Work) (a : Graph) (z : Work) → Tame w.graph a → μ a < μ w.graph → Paid μ (again w a) z → Paid μ w z
paid-next μ w a z t l p = record { tame = tame-then t p.tame; paid = omega (arith, p.paid) }

-- a transform until no vertex allows it, with any fuel
module _ (f : Graph → ℕ → Option Graph) (μ : Graph → ℕ) (falls : (g g' : Graph) (v : ℕ) → Good g → f g v ≡ some g' → Tame g g' × (μ g' < μ g)) where
  until-turn : (fuel : ℕ) (w : Work) → Good w.graph → ((a : Graph) → Good a
      → Paid μ (again w a) (transform_until_complete f fuel (again w a))) → Paid μ w (transform_until_complete f (suc fuel) w)
  until-turn fuel w h ih = by_option (first_at (f w.graph) 0 (node_count w.graph))
      (λ t. rw (until_none f fuel w t) (paid-same μ w h))
      (λ a t. let i = first_at-some (f w.graph) 0 (node_count w.graph) a t in
      let z = falls w.graph a i.0 h i.1 in
      rw (until-some f fuel w a t) (paid-next μ w a (transform_until_complete f fuel (again w a)) z.0 z.1 (ih a z.0.good)))

  until_end : (w : Work) → Good w.graph → Paid μ w (transform_until_complete f zero w)
  until_end w h = rw (until-zero f w) (paid-same μ w h)

  pub until-paid : (fuel : ℕ) (w : Work) → Good w.graph → Paid μ w (transform_until_complete f fuel w)
  until-paid zero w h = until_end w h
  until-paid (suc fuel) w h = until-turn fuel w h (λ a s. until-paid fuel (again w a) s)

pub diamonds-paid : (fuel : ℕ) (w : Work) → Good w.graph → Paid weight w (transform_until_complete try_merge_diamond fuel w)
diamonds-paid = until-paid try_merge_diamond weight (λ g g' v h d. let z = diamond-tame g g' v h d in (z.0, z.2))

pub tails-paid : (least : ℕ) → 3 < least → (fuel : ℕ) (w : Work) → Good w.graph → Paid weight w (transform_until_complete (try_merge_tails least) fuel w)
tails-paid least pos = until-paid (try_merge_tails least) weight (λ g g' v h d. let z = tails-tame least pos g g' v h d in (z.0, z.2))

pub merges-paid : (fuel : ℕ) (w : Work) → Good w.graph → Paid node_count w (transform_until_complete try_merge_common_suffices fuel w)
merges-paid = until-paid try_merge_common_suffices node_count merge-tame

-- splits: each adds a vertex at least
pub record Added (w w' : Work) : Type 0 where
  pub tame : Tame w.graph w'.graph
  pub added : w'.rewrites + node_count w.graph ≤ w.rewrites + node_count w'.graph

added-same : (w : Work) → Good w.graph → Added w w
added-same w h = record { tame = tame-same w.graph h; added = omega arith }

added_next : (w : Work) (a : Graph) (z : Work) → Tame w.graph a → node_count w.graph < node_count a → Added (again w a) z → Added w z
added_next w a z t l p = record { tame = tame-then t p.tame; added = omega (arith, p.added) }

pub first_split-tame : (g : Graph) (tried : List ℕ) (v n : ℕ) (s : Split) → Good g → first_split g tried v n ≡ some s → Tame g s.graph
    × (node_count g < node_count s.graph)
first_split-tame g tried v zero s h e = no-some (first_split-zero g tried v) e
first_split-tame g tried v (suc n) s h e = by_test (elem_of v tried)
    (λ t. first_split-tame g tried (suc v) n s h (sym (first_split-tried g tried v n t) ∙ e))
    (λ t. by_option (try_split_common_suffix g v)
    (λ y. first_split-tame g (v ∷ tried) (suc v) n s h (sym (first_split-none g tried v n t y) ∙ e))
    (λ a y. split-tame g s.graph v h (y ∙ ap some (ap (λ (s : Split). s.graph) (some-injective _ s (sym (first_split-some g tried v n a t y) ∙ e))))))

split_all-end : (tried : List ℕ) (w : Work) → Good w.graph → Added w (split_until_complete zero tried w)
split_all-end tried w h = rw (split_all-zero tried w) (added-same w h)

split_all-turn : (fuel : ℕ) (tried : List ℕ) (w : Work) → Good w.graph
    → ((l : List ℕ) (a : Graph) → Good a → Added (again w a) (split_until_complete fuel l (again w a)))
    → Added w (split_until_complete (suc fuel) tried w)
split_all-turn fuel tried w h ih = by_option (first_split w.graph tried 0 (node_count w.graph))
    (λ t. rw (split_all-none fuel tried w t) (added-same w h))
    (λ s t. let z = first_split-tame w.graph tried 0 (node_count w.graph) s h t in
    rw (split_all-some fuel tried w s t) (added_next w s.graph (split_until_complete fuel s.tried (again w s.graph)) z.0 z.1
    (ih s.tried s.graph z.0.good)))

pub splits-added : (fuel : ℕ) (tried : List ℕ) (w : Work) → Good w.graph → Added w (split_until_complete fuel tried w)
splits-added zero tried w h = split_all-end tried w h
splits-added (suc fuel) tried w h = split_all-turn fuel tried w h (λ l a s. splits-added fuel l (again w a) s)

-- zip
zip-end₁ : (ss : List ℕ) (w : Work) → Good w.graph → Paid node_count w (zip_starts zero ss w)
zip-end₁ ss w h = rw (zip-zero ss w) (paid-same node_count w h)

zip-end₂ : (fuel : ℕ) (w : Work) → Good w.graph → Paid node_count w (zip_starts (suc fuel) [] w)
zip-end₂ fuel w h = rw (zip_empty fuel w) (paid-same node_count w h)

zip_turn : (fuel : ℕ) (s : ℕ) (ss : List ℕ) (w : Work) → Good w.graph → Paid node_count w (zip_starts fuel ss w)
    → ((l : List ℕ) (a : Graph) → Good a → Paid node_count (again w a) (zip_starts fuel l (again w a)))
    → Paid node_count w (zip_starts (suc fuel) (s ∷ ss) w)
zip_turn fuel s ss w h i₁ i₂ = by_list (linear_chain w.graph s)
    (λ t. rw (zip-nil fuel s ss w t) i₁)
    (λ v vs t. let z = zip-tame w.graph s v vs h (rw t at (chained-from w.graph s)) in
    let a = merge_linear_chain w.graph s (v ∷ vs) in
    rw (zip-cons fuel s ss w v vs t) (paid-next node_count w a (zip_starts fuel (remap_numbers (v ∷ vs) ss) (again w a)) z.0 z.1
    (i₂ (remap_numbers (v ∷ vs) ss) a z.0.good)))

pub starts-paid : (fuel : ℕ) (ss : List ℕ) (w : Work) → Good w.graph → Paid node_count w (zip_starts fuel ss w)
starts-paid zero ss w h = zip-end₁ ss w h
starts-paid (suc fuel) [] w h = zip-end₂ fuel w h
starts-paid (suc fuel) (s ∷ ss) w h = zip_turn fuel s ss w h (starts-paid fuel ss w h) (λ l a k. starts-paid fuel l (again w a) k)

pub zip-paid : (w : Work) → Good w.graph → Paid node_count w (zip_linear_chains w)
unfolding zip_linear_chains
zip-paid w h = starts-paid (length (keep_if (is_linear_chain_start w.graph) (up_from 0 (node_count w.graph))))
    (keep_if (is_linear_chain_start w.graph) (up_from 0 (node_count w.graph))) w h

-- a round: what it takes from the weight, and twice the weight
pub record RoundWithin (extra : ℕ) (g : Graph) (rewrites : ℕ) (g' : Graph) (count' : ℕ) : Type 0 where
  pub tame : Tame g g'
  pub within : count' + weight g' ≤ rewrites + weight g + extra

round-sum : (c₀ n₀ c₁ n₁ c₂ n₂ v₂ c₃ n₃ v₃ c₄ v₄ c₅ v₅ n₅ : ℕ) → c₁ + n₁ ≤ c₀ + n₀ → c₂ + n₂ ≤ c₁ + n₁
    → c₃ + v₂ ≤ c₂ + v₃ → n₃ ≤ n₂
    → n₂ ≤ n₀ → v₃ ≤ n₃ → c₄ + v₄ ≤ c₃ + v₃ → c₅ + v₅ ≤ c₄ + v₄ → n₅ ≤ n₃ → c₅ + n₅ ≤ c₀ + n₀ + 2 * n₀
round-sum c₀ n₀ c₁ n₁ c₂ n₂ v₂ c₃ n₃ v₃ c₄ v₄ c₅ v₅ n₅ a b d e f h i j k = omega arith

pub round-within : (least : ℕ) → 3 < least → (w : Work) → Good w.graph → RoundWithin
    (2 * weight w.graph) w.graph w.rewrites (simplify_graph_once least w).graph (simplify_graph_once least w).rewrites
unfolding simplify_graph_once
round-within least pos w h =
    let w₁ = transform_until_complete try_merge_diamond (fuel_for w.graph) w in
    let k₁ = diamonds-paid (fuel_for w.graph) w h in
    let w₂ = transform_until_complete (try_merge_tails least) (fuel_for w₁.graph) w₁ in
    let k₂ = tails-paid least pos (fuel_for w₁.graph) w₁ k₁.tame.good in
    let w₃ = split_until_complete (fuel_for w₂.graph) [] w₂ in
    let k₃ = splits-added (fuel_for w₂.graph) [] w₂ k₂.tame.good in
    let w₄ = transform_until_complete try_merge_common_suffices (fuel_for w₃.graph) w₃ in
    let k₄ = merges-paid (fuel_for w₃.graph) w₃ k₃.tame.good in
    let k₅ = zip-paid w₄ k₄.tame.good in
    let t₂ = tame-then k₁.tame k₂.tame in
    let t₅ = tame-then k₄.tame k₅.tame in
    record {
      tame = tame-then (tame-then t₂ k₃.tame) t₅;
      within = round-sum w.rewrites (weight w.graph) w₁.rewrites (weight w₁.graph) w₂.rewrites (weight w₂.graph)
          (node_count w₂.graph) w₃.rewrites (weight w₃.graph) (node_count w₃.graph) w₄.rewrites (node_count w₄.graph)
          (zip_linear_chains w₄).rewrites (node_count (zip_linear_chains w₄).graph) (weight (zip_linear_chains w₄).graph)
          k₁.paid k₂.paid k₃.added k₃.tame.light t₂.light (order-weight w₃.graph) k₄.paid k₅.paid t₅.light;
    }

-- the rounds
rounds-end : (P : Graph → ℕ → Type 0) (least n : ℕ) (sig : List ℕ) (w : Work) → P w.graph w.rewrites
    → P (rounds_from least zero n sig w).graph (rounds_from least zero n sig w).rewrites
unfolding rounds_from simplified
rounds-end P least n sig w p = p

rounds-turn : (P : Graph → ℕ → Type 0) (least remaining n : ℕ) (sig : List ℕ) (w : Work)
    → P (simplify_graph_once least w).graph (simplify_graph_once least w).rewrites
    → ((m : ℕ) (l : List ℕ) → P (rounds_from least remaining m l (simplify_graph_once least w)).graph
    (rounds_from least remaining m l (simplify_graph_once least w)).rewrites)
    → P (rounds_from least (suc remaining) n sig w).graph (rounds_from least (suc remaining) n sig w).rewrites
unfolding rounds_from simplified
rounds-turn P least remaining n sig w p q = by_test (eqb (simplify_graph_once least w).rewrites w.rewrites)
    (λ t. rw (t, rounds_from) p)
    (λ t. by_test (ltb n 6)
    (λ s. rw (t, rounds_from) (rw s (q (suc n) sig)))
    (λ s. by_test (same_list sig (graph_topology_signature (simplify_graph_once least w).graph))
    (λ e. rw (t, rounds_from) (rw s (rw e p)))
    (λ e. rw (t, rounds_from) (rw s (rw e (q (suc n) (graph_topology_signature (simplify_graph_once least w).graph)))))))

abbrev Bounds : ℕ → ℕ → Work → Graph → ℕ → Type 0
Bounds top remaining w g' count' = RoundWithin (remaining * (2 * top)) w.graph w.rewrites g' count'

within_more : {x y : ℕ} {g : Graph} {c : ℕ} {g' : Graph} {c' : ℕ} → x ≤ y → RoundWithin x g c g' c' → RoundWithin y g c g' c'
within_more h k = record { tame = k.tame; within = omega (arith, k.within) }

within-then : {x y : ℕ} {a : Graph} {i : ℕ} {b : Graph} {j : ℕ} {c : Graph} {k : ℕ} → RoundWithin x a i b j → RoundWithin y b j c k → RoundWithin (x + y) a i c k
within-then h k = record { tame = tame-then h.tame k.tame; within = omega (arith, h.within, k.within) }

within_none : (w : Work) (top : ℕ) → Good w.graph → Bounds top 0 w w.graph w.rewrites
within_none w top h = record { tame = tame-same w.graph h; within = omega arith }

rounds-next : (least : ℕ) → 3 < least → (top remaining n : ℕ) (sig : List ℕ) (w : Work) → Good w.graph → weight w.graph ≤ top
    → ((m : ℕ) (l : List ℕ) → Good (simplify_graph_once least w).graph → weight (simplify_graph_once least w).graph ≤ top
    → Bounds top remaining (simplify_graph_once least w) (rounds_from least remaining m l (simplify_graph_once least w)).graph
    (rounds_from least remaining m l (simplify_graph_once least w)).rewrites)
    → Bounds top (suc remaining) w (rounds_from least (suc remaining) n sig w).graph (rounds_from least (suc remaining) n sig w).rewrites
rounds-next least pos top remaining n sig w h l ih =
    let k = round-within least pos w h in
    rounds-turn (Bounds top (suc remaining) w) least remaining n sig w
    (within_more (omega arith) k)
    (λ m s. within_more (omega arith) (within-then k (ih m s k.tame.good (omega (arith, k.tame.light)))))

pub rounds-within : (least : ℕ) → 3 < least → (top remaining n : ℕ) (sig : List ℕ) (w : Work) → Good w.graph → weight w.graph ≤ top
    → Bounds top remaining w (rounds_from least remaining n sig w).graph (rounds_from least remaining n sig w).rewrites
rounds-within least pos top zero n sig w h l = rounds-end (Bounds top 0 w) least n sig w (within_none w top h)
rounds-within least pos top (suc remaining) n sig w h l = rounds-next least pos top remaining n sig w h l (λ m s g k. rounds-within
    least pos top remaining m s (simplify_graph_once least w) g k)

-- THE WHOLE CALL
abbrev pub begun : Graph → Work
begun g = record { graph = g; rewrites = 0 }

pub simplify-tame : (least : ℕ) → 3 < least → (g : Graph) → Good g → Tame g (simplify_graph_full least g).graph
unfolding simplify_graph_full
simplify-tame least pos g h =
    let k = zip-paid (begun g) h in
    tame-then k.tame (rounds-within least pos (weight g) 100 0 [] (zip_linear_chains (begun g)) k.tame.good k.tame.light).tame

pub simplify-bound : (least : ℕ) → 3 < least → (g : Graph) → Good g → (simplify_graph_full least g).rewrites ≤ 202 * weight g
unfolding simplify_graph_full
simplify-bound least pos g h =
    let k = zip-paid (begun g) h in
    omega (
      arith,
      k.paid,
      k.tame.light,
      order-weight g,
      (rounds-within least pos (weight g) 100 0 [] (zip_linear_chains (begun g)) k.tame.good k.tame.light).within,
    )

-- Room: a graph that starts with N at most n and Φ at most f, and all that becomes of it
pub record Small (n f : ℕ) (g : Graph) : Type 0 where
  pub surplus : load g ≤ node_count g + f
  pub size : weight g ≤ n

-- at most n vertices and e edges
pub record Fits (n e : ℕ) (g : Graph) : Type 0 where
  pub vertices : node_count g ≤ n
  pub edges : length g.edges ≤ e
  pub single : Good g

module _ {n f : ℕ} where
  pub small-tame : {g g' : Graph} → Small n f g → Tame g g' → Small n f g'
  small-tame h t = record { surplus = omega (arith, h.surplus, t.room); size = omega (arith, h.size, t.light) }

  pub small-fits : (g : Graph) → Good g → Small n f g → Fits n (n + f) g
  unfolding load
  small-fits g s h = record { vertices = omega (arith, h.size, order-weight g); edges = omega (arith, h.size, h.surplus, order-weight g); single = s }

  pub tame-fits : {g g' : Graph} → Small n f g → Tame g g' → Fits n (n + f) g'
  tame-fits {g} {g'} h t = small-fits g' t.good (small-tame h t)

  pub simplify-fits : (least : ℕ) → 3 < least → (g : Graph) → Good g → Small n f g → Fits n (n + f) (simplify_graph_full least g).graph
  simplify-fits least pos g h s = tame-fits s (simplify-tame least pos g h)
