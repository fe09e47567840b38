-- The chains of a graph; those that are left when one is joined.
-- Assumes nothing.
use Prim.Native.Nat.{ℕ, ◌<◌}
use mathlib.Core.Path.{◌≡◌, refl, sym, ap, ◌∙◌, subst}
use mathlib.Core.Logic.{⊎_elim}
use mathlib.Core.Bool.{Bool, true, false}
use mathlib.Core.List.Memᴰ
use mathlib.Core.List.{List, [], ◌∷◌, map, Memᴰ}
use Rattle.defs.specs.Lists.{keep_if, rank}
use Rattle.defs.specs.SeqGraph.{Graph, node_count, vertex_sequence, keeps, remove_vertices_by_id}
use Rattle.defs.specs.Zip.{is_linear_chain_start, linear_chain, merge_linear_chain}
use Rattle.laws.proofs.Walks.{by_test}
use Rattle.laws.proofs.ListLaws.{clash, keep_if-yes, keep_if-no, rank_lt}
use Rattle.laws.proofs.Edges.{keeps-not, not-keeps}
use Rattle.laws.proofs.Nets.{order-restrict, seq-restrict}
use Rattle.laws.proofs.Sound.{Sound}
use Rattle.laws.proofs.Quiet.{chain-none}
use Rattle.laws.proofs.Whole.{by_list}
use Rattle.laws.proofs.ZipLaws as Z
use Rattle.laws.proofs.ZipLaws.{Chained}
use Rattle.all_chains.specs.AllChains.{LinearChain, chains_from}
use Rattle.all_chains.proofs.Traces.{WholeChain, whole-chained, step-into, step-no-start, linear-start, linear-whole, whole-linear, chained-below}
use Rattle.all_chains.proofs.Apart as A

-- a chain under new numbers
abbrev pub renum : (ℕ → ℕ) → LinearChain → LinearChain
renum f c = record { first = f c.first; rest = map f c.rest }

pub chains-nil : (g : Graph) (s : ℕ) (ss : List ℕ) → linear_chain g s ≡ [] → chains_from g (s ∷ ss) ≡ chains_from g ss
unfolding chains_from
chains-nil g s ss t = rw (t, chains_from)

pub chains_cons : (g : Graph) (s : ℕ) (ss : List ℕ) (v : ℕ) (vs : List ℕ) → linear_chain g s ≡ v ∷ vs → chains_from g (s ∷ ss)
    ≡ record { first = s; rest = v ∷ vs } ∷ chains_from g ss
unfolding chains_from
chains_cons g s ss v vs t = rw (t, chains_from)

pub chains-none : (g : Graph) → chains_from g [] ≡ []
unfolding chains_from
chains-none g = refl

-- what a chain of the list is
pub record IsChain (g : Graph) (ss : List ℕ) (c : LinearChain) : Type 0 where
  pub among : Memᴰ c.first ss
  pub old : c.first < node_count g
  pub starts : is_linear_chain_start g c.first ≡ true
  pub whole : WholeChain g c.first c.rest
  pub is : linear_chain g c.first ≡ c.rest

chain-tail : (g : Graph) (s : ℕ) (ss : List ℕ) (c : LinearChain) → IsChain g ss c → IsChain g (s ∷ ss) c
chain-tail g s ss c k = record { among = Memᴰ.tail k.among; old = k.old; starts = k.starts; whole = k.whole; is = k.is }

chain-here : (g : Graph) → Sound g → (s : ℕ) (ss : List ℕ) (v : ℕ) (vs : List ℕ) → linear_chain g s ≡ v ∷ vs → IsChain
    g (s ∷ ss) record { first = s; rest = v ∷ vs }
chain-here g h s ss v vs t =
    let a = linear-start g s v vs t in
    record { among = Memᴰ.head refl; old = a.0; starts = a.1; whole = subst (WholeChain g s) t (linear-whole g h s a.0 a.1); is = t }

pub of-chains : (g : Graph) → Sound g → (ss : List ℕ) (c : LinearChain) → Memᴰ c (chains_from g ss) → IsChain g ss c
of-chains g h [] c m = absurd (Memᴰ.not-nil (rw (chains-none g) at m))
of-chains g h (s ∷ ss) c m = by_list (linear_chain g s)
    (λ t. chain-tail g s ss c (of-chains g h ss c (rw (chains-nil g s ss t) at m)))
    (λ v vs t. ⊎_elim
    (λ (e : c ≡ record { first = s; rest = v ∷ vs }). subst (IsChain g (s ∷ ss)) (sym e) (chain-here g h s ss v vs t))
    (λ n. chain-tail g s ss c (of-chains g h ss c n))
    (Memᴰ.cases_cons (rw (chains_cons g s ss v vs t) at m)))

-- all of a chain is among the vertices
pub chain-below : (g : Graph) → Sound g → (ss : List ℕ) (c : LinearChain) → IsChain g ss c → (v : ℕ) → Memᴰ v (c.first ∷ c.rest) → v < node_count g
chain-below g h ss c k v m = chained-below g h c.first c.rest k.old (whole-chained g c.first c.rest k.whole) v m

module _ (g : Graph) (h : Sound g) (s y : ℕ) (ys : List ℕ) (starts : is_linear_chain_start g s ≡ true) (whole : WholeChain g s (y ∷ ys)) where
  pub chained : Chained g s (y ∷ ys)
  chained = whole-chained g s (y ∷ ys) whole

  abbrev p : ℕ → Bool
  p = keeps (y ∷ ys)

  abbrev new : ℕ → ℕ
  new = rank (keeps (y ∷ ys))

  abbrev after : Graph
  after = merge_linear_chain g s (y ∷ ys)

  abbrev Out : ℕ → Type 0
  Out v = Memᴰ v (s ∷ y ∷ ys) → ⊥

  pub sound-after : Sound after
  sound-after = (Z.zip-keeps g h.bounded h.rank h.ranks s y ys chained).sound

  pub order-after : node_count after ≡ rank p (node_count g)
  unfolding merge_linear_chain remove_vertices_by_id
  order-after = order-restrict p (Z.G g h.bounded h.rank h.ranks s y ys chained)
      ∙ ap (rank p) (Z.order-G g h.bounded h.rank h.ranks s y ys chained)

  pub new-below : (t : ℕ) → t < node_count g → keeps (y ∷ ys) t ≡ true → new t < node_count after
  new-below t l k = rw order-after (rank_lt p t (node_count g) l k)

  pub seq-after : (v : ℕ) → v < node_count g → Out v → vertex_sequence after (new v) ≡ vertex_sequence g v
  unfolding merge_linear_chain remove_vertices_by_id
  seq-after v l o =
      seq-restrict p (Z.G g h.bounded h.rank h.ranks s y ys chained) v
      (rw (Z.order-G g h.bounded h.rank h.ranks s y ys chained) l) (A.kept_out g h s y ys chained v o)
      ∙ Z.seq-other g h.bounded h.rank h.ranks s y ys chained v (λ e. o (Memᴰ.head e))

  -- no chain starts behind the first vertex of one
  pub rest-no-start : (t : ℕ) → Memᴰ t (y ∷ ys) → is_linear_chain_start g t ≡ false
  rest-no-start t m = let a = step-into g s (y ∷ ys) whole t m in step-no-start g a.0 t a.1

  -- another start is not of the chain
  pub start-out : (t : ℕ) → (t ≡ s → ⊥) → is_linear_chain_start g t ≡ true → Out t
  start-out t n u m = ⊎_elim n (λ k. clash u (rest-no-start t k)) (Memᴰ.cases_cons m)

  -- chains from different starts have no vertex in common
  pub chain-out : (t : ℕ) → (t ≡ s → ⊥) → is_linear_chain_start g t ≡ true → (zs : List ℕ) → WholeChain g t zs → (v : ℕ) → Memᴰ v (t ∷ zs) → Out v
  chain-out t n u zs w v m = A.whole_out g h s y ys chained starts t (start-out t n u) zs w v m

  -- the chain of another vertex stays what it is, under the new numbers
  pub linear-after : (t : ℕ) → t < node_count g → Out t → linear_chain after (new t) ≡ map new (linear_chain g t)
  linear-after t l o = by_test (is_linear_chain_start g t)
      (λ u. whole-linear after sound-after (new t) (map new (linear_chain g t)) (new-below t l (A.kept_out g h s y ys chained t o))
      (A.start-after g h s y ys chained t o ∙ u)
      (A.whole-after g h s y ys chained starts t o (linear_chain g t) (linear-whole g h t l u)))
      (λ u. chain-none after (new t) (A.start-after g h s y ys chained t o ∙ u) ∙ sym (ap (map new) (chain-none g t u)))

  -- and so do all of them
  pub chains-after : (ss : List ℕ) → ((t : ℕ) → Memᴰ t ss → t < node_count g) → (Memᴰ s ss → ⊥)
      → chains_from after (map new (keep_if p ss)) ≡ map (renum new) (chains_from g ss)
  unfolding keep_if
  chains-after [] b n = chains-none after ∙ sym (ap (map (renum new)) (chains-none g))
  chains-after (t ∷ ss) b n =
      let ih = chains-after ss (λ u m. b u (Memᴰ.tail m)) (λ m. n (Memᴰ.tail m)) in
      by_test (keeps (y ∷ ys) t)
      (λ k. let o : Out t = λ m. ⊎_elim (λ (e : t ≡ s). n (Memᴰ.head (sym e))) (keeps-not (y ∷ ys) t k) (Memᴰ.cases_cons m) in
      let la = linear-after t (b t (Memᴰ.head refl)) o in
      let f = ap (λ (l : List ℕ). chains_from after (map new l)) (keep_if-yes p t ss k) in
      by_list (linear_chain g t)
      (λ e. f ∙ (chains-nil after (new t) (map new (keep_if p ss)) (la ∙ ap (map new) e) ∙ (ih ∙ sym (ap (map (renum new)) (chains-nil g t ss e)))))
      (λ v vs e. f ∙ (chains_cons after (new t) (map new (keep_if p ss)) (new v) (map new vs) (la ∙ ap (map new) e)
      ∙ (ap (λ (l : List LinearChain). renum new record { first = t; rest = v ∷ vs } ∷ l) ih ∙ sym (ap (map (renum new)) (chains_cons g t ss v vs e))))))
      (λ k. ap (λ (l : List ℕ). chains_from after (map new l)) (keep_if-no p t ss k)
      ∙ (ih ∙ sym (ap (map (renum new)) (chains-nil g t ss (chain-none g t (rest-no-start t (not-keeps (y ∷ ys) t k)))))))
