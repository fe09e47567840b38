-- The one pass is `zip_linear_chains`.
-- Assumes nothing.
use Prim.Native.Nat.{ℕ, zero, suc, ◌+◌, ◌≤◌, ◌<◌}
use native.Mathlib.Omega.{arith}
use mathlib.Core.Path.{◌≡◌, refl, sym, ap, ◌∙◌, subst}
use mathlib.Core.Logic.{⊎_elim}
use mathlib.Core.Bool.{Bool, true, ◌&&◌}
use mathlib.Core.List.Memᴰ
use mathlib.Core.List.{List, [], ◌∷◌, map, Memᴰ}
use lib.ListN.{length, length-map}
use Rattle.defs.specs.Lists.{keep_if, rank, up_from}
use Rattle.defs.specs.SeqGraph.{Edge, Graph, node_count, keeps, remove_vertices_by_id, compact_vertices, remap_edge, remap_numbers}
use Rattle.defs.specs.Zip.{Work, is_linear_chain_start, linear_chain, merge_linear_chain, zip_starts, zip_linear_chains}
use Rattle.laws.proofs.Walks.{by_test}
use Rattle.laws.proofs.ListLaws.{and-true, keep_if-yes, keep_if-no, of-keep_if, rank-inj, rank-yes}
use Rattle.laws.proofs.Edges.{keeps-other}
use Rattle.laws.proofs.Counts.{Distinct, keep_at-all}
use Rattle.laws.proofs.Cycles.{below-up_from}
use Rattle.laws.proofs.Sound.{Sound}
use Rattle.laws.proofs.Quiet.{chain-none}
use Rattle.laws.proofs.Fuel.{Good}
use Rattle.laws.proofs.Bound.{Paid, zip-paid}
use Rattle.laws.proofs.Whole.{by_list, zip-nil, zip-cons, zip-zero, zip_empty, again}
use Rattle.all_chains.specs.AllChains.{LinearChain, chains_from, chains_of, gone_of, from_after, move_from_all, write_chains, absorb_chains}
use Rattle.all_chains.specs.AllChains.{merge_linear_chains, zip_all}
use Rattle.all_chains.proofs.Traces.{WholeChain, linear-start, linear-whole}
use Rattle.all_chains.proofs.Chains as C
use Rattle.all_chains.proofs.Chains.{renum, of-chains, chain-below, chains-nil, chains_cons, chains-none}
use Rattle.all_chains.proofs.OnePass.{Free, merge_step}

-- ---- nothing to join

module _ (p : ℕ → Bool) (all : (v : ℕ) → p v ≡ true) where
  pub rank-all : (n : ℕ) → rank p n ≡ n
  unfolding rank
  rank-all zero = refl
  rank-all (suc n) = rank-yes p n (all n) ∙ ap suc (rank-all n)

  edges-all : (es : List Edge) → map (remap_edge p) (keep_if (λ (e : Edge). p e.from && p e.to) (map (move_from_all []) es)) ≡ es
  unfolding remap_edge move_from_all from_after keep_if
  edges-all [] = refl
  edges-all (e ∷ es) =
      ap (map (remap_edge p)) (keep_if-yes (λ (e : Edge). p e.from && p e.to) (move_from_all [] e) (map (move_from_all []) es)
      (and-true _ _ (all e.from) (all e.to)))
      ∙ (λ i. record { from = rank-all e.from i; to = rank-all e.to i; support = e.support; is_ref = e.is_ref; capped = e.capped } ∷ edges-all es i)

pub merge_none : (g : Graph) → merge_linear_chains [] g ≡ g
unfolding merge_linear_chains remove_vertices_by_id compact_vertices absorb_chains write_chains gone_of
merge_none g =
    let all : (v : ℕ) → keeps [] v ≡ true = λ v. keeps-other [] v Memᴰ.not-nil in
    λ i. record { k = g.k; verts = keep_at-all (keeps []) g.verts 0 all i; edges = edges-all (keeps []) all g.edges i }

-- ---- the starts that are left

distinct-kept : (p : ℕ → Bool) (ss : List ℕ) → Distinct ss → Distinct (keep_if p ss)
unfolding keep_if
distinct-kept p [] d = tt
distinct-kept p (t ∷ ss) d = by_test (p t)
    (λ k. subst Distinct (sym (keep_if-yes p t ss k)) (λ m. d.0 (of-keep_if p ss m).0, distinct-kept p ss d.1))
    (λ k. subst Distinct (sym (keep_if-no p t ss k)) (distinct-kept p ss d.1))

distinct-map : (f : ℕ → ℕ) (ss : List ℕ) → ((a b : ℕ) → Memᴰ a ss → Memᴰ b ss → f a ≡ f b → a ≡ b) → Distinct ss → Distinct (map f ss)
distinct-map f [] i d = tt
distinct-map f (t ∷ ss) i d = (
  λ m. let a = Memᴰ.of_map f ss m in d.0 (subst (λ (x : ℕ). Memᴰ x ss) (i a.0 t (Memᴰ.tail a.1) (Memᴰ.head refl) a.2) a.1),
  distinct-map f ss (λ a b m n. i a b (Memᴰ.tail m) (Memᴰ.tail n)) d.1,
)

pub distinct-new : (p : ℕ → Bool) (ss : List ℕ) → Distinct ss → Distinct (map (rank p) (keep_if p ss))
distinct-new p ss d = distinct-map (rank p) (keep_if p ss) (λ a b m n e. rank-inj p a b (of-keep_if p ss m).1 (of-keep_if p ss n).1 e) (distinct-kept p ss d)

kept-length : (p : ℕ → Bool) (ss : List ℕ) → length (keep_if p ss) ≤ length ss
unfolding keep_if
kept-length p [] = omega arith
kept-length p (t ∷ ss) = by_test (p t)
    (λ k. omega (arith, ap length (keep_if-yes p t ss k), kept-length p ss))
    (λ k. omega (arith, ap length (keep_if-no p t ss k), kept-length p ss))

above-up_from : (i n v : ℕ) → Memᴰ v (up_from i n) → i ≤ v
unfolding up_from
above-up_from i zero v m = absurd (Memᴰ.not-nil m)
above-up_from i (suc n) v m = ⊎_elim (λ (e : v ≡ i). omega arith) (λ k. omega (arith, above-up_from (suc i) n v k)) (Memᴰ.cases_cons m)

pub distinct-up_from : (i n : ℕ) → Distinct (up_from i n)
unfolding up_from
distinct-up_from i zero = tt
distinct-up_from i (suc n) = (λ m. omega (arith, above-up_from (suc i) n i m), distinct-up_from (suc i) n)

-- ---- the theorem

-- all the chains of a list of starts at once
abbrev pub zip_from : List ℕ → Work → Work
zip_from ss w = record { graph = merge_linear_chains (chains_from w.graph ss) w.graph; rewrites = length (chains_from w.graph ss) + w.rewrites }

abbrev joined : List LinearChain → Work → Work
joined cs w = record { graph = merge_linear_chains cs w.graph; rewrites = length cs + w.rewrites }

no-chains : (w : Work) → joined [] w ≡ w
no-chains w = λ i. record { graph = merge_none w.graph i; rewrites = zero_more i }
  where
    zero_more : 0 + w.rewrites ≡ w.rewrites
    zero_more = omega arith

-- where there is no chain, all stays
pub zip-all-none : (w : Work) → chains_of w.graph ≡ [] → zip_all w ≡ w
unfolding zip_all
zip-all-none w e = ap (λ (cs : List LinearChain). joined cs w) e ∙ no-chains w

from-none : (w : Work) → zip_from [] w ≡ w
from-none w = ap (λ (cs : List LinearChain). joined cs w) (chains-none w.graph) ∙ no-chains w

abbrev Below : Graph → List ℕ → Type 0
Below g ss = (t : ℕ) → Memᴰ t ss → t < node_count g

-- one chain joined and then the others: all at once
module _ (w : Work) (h : Sound w.graph) (s : ℕ) (ss : List ℕ) (d : Distinct (s ∷ ss)) (b : Below w.graph (s ∷ ss)) (v : ℕ) (vs :
    List ℕ) (t : linear_chain w.graph s ≡ v ∷ vs) where
  starts : is_linear_chain_start w.graph s ≡ true
  starts = (linear-start w.graph s v vs t).1

  whole : WholeChain w.graph s (v ∷ vs)
  whole = subst (WholeChain w.graph s) t (linear-whole w.graph h s (b s (Memᴰ.head refl)) starts)

  abbrev after : Graph
  after = merge_linear_chain w.graph s (v ∷ vs)

  abbrev left : List ℕ
  left = remap_numbers (v ∷ vs) ss

  chains-left : chains_from after left ≡ map (renum (rank (keeps (v ∷ vs)))) (chains_from w.graph ss)
  unfolding remap_numbers
  chains-left = C.chains-after w.graph h s v vs starts whole ss (λ u m. b u (Memᴰ.tail m)) d.0

  free : Free w.graph h s v vs starts whole (chains_from w.graph ss)
  free c m u n =
      let k = of-chains w.graph h ss c m in (
        C.chain-out w.graph h s v vs starts whole c.first (λ e. d.0 (subst (λ (x : ℕ). Memᴰ x ss) e k.among)) k.starts
            c.rest k.whole u n,
        chain-below w.graph h ss c k u n,
      )

  graph-turn : merge_linear_chains (chains_from after left) after ≡ merge_linear_chains (chains_from w.graph (s ∷ ss)) w.graph
  graph-turn =
      ap (λ (l : List LinearChain). merge_linear_chains l after) chains-left
      ∙ (merge_step w.graph h s v vs starts whole (chains_from w.graph ss) free
      ∙ sym (ap (λ (l : List LinearChain). merge_linear_chains l w.graph) (chains_cons w.graph s ss v vs t)))

  count_turn : length (chains_from after left) + suc w.rewrites ≡ length (chains_from w.graph (s ∷ ss)) + w.rewrites
  count_turn =
      omega (
        arith,
        ap length chains-left,
        length-map (chains_from w.graph ss) (renum (rank (keeps (v ∷ vs)))),
        ap length (chains_cons w.graph s ss v vs t),
      )

  work-turn : zip_from left (again w after) ≡ zip_from (s ∷ ss) w
  work-turn = λ i. record { graph = graph-turn i; rewrites = count_turn i }

  sound-turn : Sound after
  sound-turn = C.sound-after w.graph h s v vs starts whole

  distinct-turn : Distinct left
  unfolding remap_numbers
  distinct-turn = distinct-new (keeps (v ∷ vs)) ss d.1

  below-turn : Below after left
  unfolding remap_numbers
  below-turn u m =
      let a = Memᴰ.of_map (rank (keeps (v ∷ vs))) (keep_if (keeps (v ∷ vs)) ss) m in
      let k = of-keep_if (keeps (v ∷ vs)) ss a.1 in
      subst (λ (x : ℕ). x < node_count after) a.2 (C.new-below w.graph h s v vs starts whole a.0 (b a.0 (Memᴰ.tail k.0)) k.1)

  length-turn : length left ≤ length ss
  unfolding remap_numbers
  length-turn = omega (arith, length-map (keep_if (keeps (v ∷ vs)) ss) (rank (keeps (v ∷ vs))), kept-length (keeps (v ∷ vs)) ss)

one-turn : (fuel s : ℕ) (ss : List ℕ) (w : Work) → Sound w.graph → Distinct (s ∷ ss) → Below w.graph (s ∷ ss) → length ss ≤ fuel
    → zip_starts fuel ss w ≡ zip_from ss w
    → ((l : List ℕ) (a : Graph) → Sound a → Distinct l → Below a l → length l ≤ fuel → zip_starts fuel l (again w a) ≡ zip_from l (again w a))
    → zip_starts (suc fuel) (s ∷ ss) w ≡ zip_from (s ∷ ss) w
one-turn fuel s ss w h d b l i₁ i₂ = by_list (linear_chain w.graph s)
    (λ t. zip-nil fuel s ss w t ∙ (i₁ ∙ sym (ap (λ (cs : List LinearChain). joined cs w) (chains-nil w.graph s ss t))))
    (λ v vs t. zip-cons fuel s ss w v vs t
    ∙ (i₂ (remap_numbers (v ∷ vs) ss) (merge_linear_chain w.graph s (v ∷ vs)) (sound-turn w h s ss d b v vs t)
    (distinct-turn w h s ss d b v vs t) (below-turn w h s ss d b v vs t) (omega (arith, length-turn w h s ss d b v vs t))
    ∙ work-turn w h s ss d b v vs t))

-- the chains one after the other, or all at once
pub zip-from : (fuel : ℕ) (ss : List ℕ) (w : Work) → Sound w.graph → Distinct ss → Below w.graph ss → length ss ≤ fuel
    → zip_starts fuel ss w ≡ zip_from ss w
zip-from zero [] w h d b l = zip-zero [] w ∙ sym (from-none w)
zip-from zero (s ∷ ss) w h d b l = absurd (omega arith)
zip-from (suc fuel) [] w h d b l = zip_empty fuel w ∙ sym (from-none w)
zip-from (suc fuel) (s ∷ ss) w h d b l =
    one-turn fuel s ss w h d b (omega arith) (zip-from fuel ss w h d.1 (λ t m. b t (Memᴰ.tail m)) (omega arith)) (λ r a k e c n.
    zip-from fuel r (again w a) k e c n)

-- a vertex at which no chain starts adds none
pub chains-starts : (g : Graph) (ss : List ℕ) → chains_from g (keep_if (is_linear_chain_start g) ss) ≡ chains_from g ss
unfolding keep_if
chains-starts g [] = refl
chains-starts g (s ∷ ss) = by_test (is_linear_chain_start g s)
    (λ u. ap (chains_from g) (keep_if-yes (is_linear_chain_start g) s ss u) ∙ by_list (linear_chain g s)
    (λ t. chains-nil g s (keep_if (is_linear_chain_start g) ss) t ∙ (chains-starts g ss ∙ sym (chains-nil g s ss t)))
    (λ v vs t. chains_cons g s (keep_if (is_linear_chain_start g) ss) v vs t
    ∙ (ap (λ (l : List LinearChain). record { first = s; rest = v ∷ vs } ∷ l) (chains-starts g ss) ∙ sym (chains_cons g s ss v vs t))))
    (λ u. ap (chains_from g) (keep_if-no (is_linear_chain_start g) s ss u) ∙ (chains-starts g ss ∙ sym (chains-nil g s ss (chain-none g s u))))

-- one pass makes what joining one chain after another makes
pub zip-all-is : (w : Work) → Sound w.graph → zip_all w ≡ zip_linear_chains w
unfolding zip_all zip_linear_chains chains_of
zip-all-is w h =
    let g = w.graph in
    let n = node_count g in
    let starts = keep_if (is_linear_chain_start g) (up_from 0 n) in
    sym (zip-from (length starts) starts w h (distinct-kept (is_linear_chain_start g) (up_from 0 n) (distinct-up_from 0 n))
    (λ t m. let a = (of-keep_if (is_linear_chain_start g) (up_from 0 n) m).0 in omega (arith, below-up_from 0 n t a)) (omega arith)
    ∙ ap (λ (cs : List LinearChain). joined cs w) (chains-starts g (up_from 0 n)))

-- what the definition keeps, the one pass keeps
pub zip-all-paid : (w : Work) → Good w.graph → Paid node_count w (zip_all w)
zip-all-paid w h = subst (Paid node_count w) (sym (zip-all-is w h.0)) (zip-paid w h)
