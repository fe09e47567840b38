-- One chain joined and then the others, or all at once.
-- Assumes nothing.
use Prim.Native.Nat.{ℕ, ◌<◌}
use native.Mathlib.Omega.{arith}
use native.Mathlib.Nat.{zero-add}
use mathlib.Core.Path.{◌≡◌, refl, sym, ap, ◌∙◌, subst, fun_ext}
use mathlib.Core.Logic.{⊎_elim}
use mathlib.Core.Bool.{Bool, true, false, ◌&&◌}
use mathlib.Core.List.Memᴰ
use mathlib.Core.List.{List, [], ◌∷◌, ◌++◌, map, map-append, Memᴰ}
use lib.Dec.{eqb}
use lib.ListN.{length, set, length-set}
use borrow.Author.Tests.{eqb-true, eqb-false, eq-eqb}
use Rattle.defs.specs.Lists.{keep_if, keep_at, rank, elem_of, concat}
use Rattle.defs.specs.SeqGraph.{Edge, Graph, node_count, vertex_sequence, keeps, remove_vertices_by_id, compact_vertices, remap_edge}
use Rattle.defs.specs.Zip.{is_linear_chain_start, last_of, move_from, merge_linear_chain}
use Rattle.laws.proofs.Walks.{by_test}
use Rattle.laws.proofs.ListLaws.{and_split, rank-inj}
use Rattle.laws.proofs.Edges.{keeps-not, not-keeps, keeps-other, keeps-gone}
use Rattle.laws.proofs.Sound.{Sound}
use Rattle.laws.proofs.ZipLaws.{Chained}
use Rattle.all_chains.specs.AllChains.{LinearChain, gone_of, from_after, move_from_all, chain_sequence, write_chains, absorb_chains, merge_linear_chains}
use Rattle.all_chains.proofs.Closing.{same_test, keep_at-set, map-through, compact-compact}
use Rattle.all_chains.proofs.Traces.{WholeChain, whole-chained}
use Rattle.all_chains.proofs.Apart as A
use Rattle.all_chains.proofs.Chains as C
use Rattle.all_chains.proofs.Chains.{renum}

-- ---- lists of chains

pub from_after-yes : (c : LinearChain) (cs : List LinearChain) (v : ℕ) → eqb v (last_of c.first c.rest) ≡ true → from_after (c ∷ cs) v ≡ c.first
unfolding from_after
from_after-yes c cs v t = rw t

pub from_after-no : (c : LinearChain) (cs : List LinearChain) (v : ℕ) → eqb v (last_of c.first c.rest) ≡ false → from_after (c ∷ cs) v ≡ from_after cs v
unfolding from_after
from_after-no c cs v t = rw t

pub last-renum : (f : ℕ → ℕ) (x : ℕ) (l : List ℕ) → last_of (f x) (map f l) ≡ f (last_of x l)
unfolding last_of
last-renum f x [] = refl
last-renum f x (y ∷ l) = last-renum f y l

pub last_mem : (x : ℕ) (l : List ℕ) → Memᴰ (last_of x l) (x ∷ l)
unfolding last_of
last_mem x [] = Memᴰ.head refl
last_mem x (y ∷ l) = Memᴰ.tail (last_mem y l)

pub gone-renum : (f : ℕ → ℕ) (cs : List LinearChain) → gone_of (map (renum f) cs) ≡ map f (gone_of cs)
unfolding gone_of
gone-renum f [] = refl
gone-renum f (c ∷ cs) = ap (λ (l : List ℕ). map f c.rest ++ l) (gone-renum f cs) ∙ sym (map-append f c.rest (gone_of cs))

pub mem-gone : (cs : List LinearChain) (v : ℕ) → Memᴰ v (gone_of cs) → (c : LinearChain) × Memᴰ c cs × Memᴰ v c.rest
unfolding gone_of
mem-gone [] v m = absurd (Memᴰ.not-nil m)
mem-gone (c ∷ cs) v m = ⊎_elim {C = (c' : LinearChain) × Memᴰ c' (c ∷ cs) × Memᴰ v c'.rest}
    (λ n. (c, Memᴰ.head refl, n)) (λ n. let r = mem-gone cs v n in (r.0, Memᴰ.tail r.1, r.2)) (Memᴰ.append_cases c.rest m)

pub keeps-append : (xs ys : List ℕ) (v : ℕ) → (keeps xs v && keeps ys v) ≡ keeps (xs ++ ys) v
unfolding keeps elem_of
keeps-append [] ys v = refl
keeps-append (x ∷ xs) ys v = by_test (eqb v x) (λ t. rw (t, elem_of)) (λ t. rw (t, elem_of) (keeps-append xs ys v))

map_same : {A B C : Type 0} (f : A → B) (k : B → C) (l : A → C) (xs : List A) → ((x : A) → Memᴰ x xs → k (f x) ≡ l x) → map k (map f xs) ≡ map l xs
map_same f k l [] h = refl
map_same f k l (x ∷ xs) h = λ i. h x (Memᴰ.head refl) i ∷ map_same f k l xs (λ y m. h y (Memᴰ.tail m)) i

-- ---- one chain joined, and then the others

module _ (g : Graph) (h : Sound g) (s y : ℕ) (ys : List ℕ) (starts : is_linear_chain_start g s ≡ true) (whole : WholeChain g s (y ∷ ys)) where
  abbrev p : ℕ → Bool
  p = keeps (y ∷ ys)

  abbrev mv : Edge → Edge
  mv = move_from (last_of s (y ∷ ys)) (s ∷ y ∷ ys) s

  abbrev both : Edge → Bool
  both e = keeps (y ∷ ys) e.from && keeps (y ∷ ys) e.to

  abbrev new : ℕ → ℕ
  new = rank (keeps (y ∷ ys))

  abbrev after : Graph
  after = merge_linear_chain g s (y ∷ ys)

  abbrev this : LinearChain
  this = record { first = s; rest = y ∷ ys }

  abbrev Out : ℕ → Type 0
  Out v = Memᴰ v (s ∷ y ∷ ys) → ⊥

  chained : Chained g s (y ∷ ys)
  chained = whole-chained g s (y ∷ ys) whole

  kept_out : (v : ℕ) → Out v → keeps (y ∷ ys) v ≡ true
  kept_out v o = A.kept_out g h s y ys chained v o

  -- chains that have no vertex of this one
  abbrev pub Free : List LinearChain → Type 0
  Free cs = (c : LinearChain) → Memᴰ c cs → (v : ℕ) → Memᴰ v (c.first ∷ c.rest) → Out v × (v < node_count g)

  free-tail : (c : LinearChain) (cs : List LinearChain) → Free (c ∷ cs) → Free cs
  free-tail c cs F d m = F d (Memᴰ.tail m)

  free-first : (c : LinearChain) (cs : List LinearChain) → Free (c ∷ cs) → Out c.first × (c.first < node_count g)
  free-first c cs F = F c (Memᴰ.head refl) c.first (Memᴰ.head refl)

  free-last : (c : LinearChain) (cs : List LinearChain) → Free (c ∷ cs) → Out (last_of c.first c.rest)
  free-last c cs F = (F c (Memᴰ.head refl) (last_of c.first c.rest) (last_mem c.first c.rest)).0

  gone_same : (cs : List LinearChain) → Free cs → (v : ℕ) → keeps (y ∷ ys) v ≡ true → keeps (gone_of (map (renum new) cs)) (new v) ≡ keeps (gone_of cs) v
  gone_same cs F v k = ap (λ (l : List ℕ). keeps l (new v)) (gone-renum new cs) ∙ by_test (keeps (gone_of cs) v)
      (λ t. keeps-other (map new (gone_of cs)) (new v) (not_in t) ∙ sym t)
      (λ t. keeps-gone (map new (gone_of cs)) (new v) (Memᴰ.map new (not-keeps (gone_of cs) v t)) ∙ sym t)
    where
      not_in : keeps (gone_of cs) v ≡ true → Memᴰ (new v) (map new (gone_of cs)) → ⊥
      not_in t m =
          let a = Memᴰ.of_map new (gone_of cs) m in
          let b = mem-gone cs a.0 a.1 in
          let o = (F b.0 b.1 a.0 (Memᴰ.tail b.2)).0 in
          keeps-not (gone_of cs) v t (rw (rank-inj p a.0 v (kept_out a.0 o) k a.2) at a.1)

  eqb-new : (v w : ℕ) → keeps (y ∷ ys) v ≡ true → keeps (y ∷ ys) w ≡ true → eqb (new v) (new w) ≡ eqb v w
  eqb-new v w a b = same_test _ _ (λ t. eq-eqb _ _ (rank-inj p v w a b (eqb-true _ _ t))) (λ t. eq-eqb _ _ (ap (rank p) (eqb-true _ _ t)))

  from_after-new : (cs : List LinearChain) → Free cs → (v : ℕ) → keeps (y ∷ ys) v ≡ true → from_after (map (renum new) cs) (new v) ≡ new (from_after cs v)
  unfolding from_after
  from_after-new [] F v k = refl
  from_after-new (c ∷ cs) F v k =
      let l = last_of c.first c.rest in
      let e : eqb (new v) (last_of (new c.first) (map new c.rest)) ≡ eqb v l = ap (eqb (new v)) (last-renum new c.first c.rest)
      ∙ eqb-new v l k (kept_out l (free-last c cs F)) in
      by_test (eqb v l)
      (λ t. from_after-yes (renum new c) (map (renum new) cs) (new v) (e ∙ t) ∙ sym (ap new (from_after-yes c cs v t)))
      (λ t. from_after-no (renum new c) (map (renum new) cs) (new v) (e ∙ t) ∙ (from_after-new cs (free-tail c cs F) v k ∙ sym (ap new (from_after-no c cs v t))))

  from_after-kept : (cs : List LinearChain) → Free cs → (v : ℕ) → keeps (y ∷ ys) (from_after cs v) ≡ keeps (y ∷ ys) v
  unfolding from_after
  from_after-kept [] F v = refl
  from_after-kept (c ∷ cs) F v = by_test (eqb v (last_of c.first c.rest))
      (λ t. ap p (from_after-yes c cs v t) ∙ (kept_out c.first (free-first c cs F).0
      ∙ sym (ap p (eqb-true _ _ t) ∙ kept_out (last_of c.first c.rest) (free-last c cs F))))
      (λ t. ap p (from_after-no c cs v t) ∙ from_after-kept cs (free-tail c cs F) v)

  from_after-own : (cs : List LinearChain) → Free cs → (v : ℕ) → Memᴰ v (s ∷ y ∷ ys) → from_after cs v ≡ v
  unfolding from_after
  from_after-own [] F v m = refl
  from_after-own (c ∷ cs) F v m = by_test (eqb v (last_of c.first c.rest))
      (λ t. absurd (free-last c cs F (subst (λ (x : ℕ). Memᴰ x (s ∷ y ∷ ys)) (eqb-true _ _ t) m)))
      (λ t. from_after-no c cs v t ∙ from_after-own cs (free-tail c cs F) v m)

  -- edges
  module _ (cs : List LinearChain) (F : Free cs) where
    from-kept : (e : Edge) → Memᴰ e g.edges → keeps (y ∷ ys) (from_after (this ∷ cs) e.from) ≡ keeps (y ∷ ys) (mv e).from
    from-kept e m = by_test (eqb e.from (last_of s (y ∷ ys)))
        (λ t. ap p (from_after-yes this cs e.from t ∙ sym (A.moved-last g h s y ys chained e m (eqb-true _ _ t))))
        (λ t. ap p (from_after-no this cs e.from t) ∙ (from_after-kept cs F e.from ∙ ap p (sym (A.moved_other g h s y ys chained e (eqb-false _ _ t)))))

    both-kept : (e : Edge) → Memᴰ e g.edges → both (move_from_all (this ∷ cs) e) ≡ both (mv e)
    unfolding move_from_all move_from
    both-kept e m = ap (λ (b : Bool). b && keeps (y ∷ ys) e.to) (from-kept e m)

    from-new : (e : Edge) → Memᴰ e g.edges → keeps (y ∷ ys) (mv e).from ≡ true
        → from_after (map (renum new) cs) (new (mv e).from) ≡ new (from_after (this ∷ cs) e.from)
    from-new e m k = by_test (eqb e.from (last_of s (y ∷ ys)))
        (λ t. from_after-new cs F (mv e).from k ∙ ap new (ap (from_after cs) (A.moved-last g h s y ys chained e m (eqb-true _ _ t))
        ∙ (from_after-own cs F s (Memᴰ.head refl) ∙ sym (from_after-yes this cs e.from t))))
        (λ t. from_after-new cs F (mv e).from k ∙ ap new (ap (from_after cs) (A.moved_other g h s y ys chained e (eqb-false _ _ t))
        ∙ sym (from_after-no this cs e.from t)))

    edge-new : (e : Edge) → Memᴰ e g.edges → both (mv e) ≡ true → move_from_all (map (renum new) cs) (remap_edge p (mv e))
        ≡ remap_edge p (move_from_all (this ∷ cs) e)
    unfolding move_from_all remap_edge move_from
    edge-new e m t =
        let a = and_split (keeps (y ∷ ys) (mv e).from) _ t in
        λ i. record { from = from-new e m a.0 i; to = new e.to; support = e.support; is_ref = e.is_ref; capped = e.capped }

    edges-through : map (move_from_all (map (renum new) cs)) (map (remap_edge p) (keep_if both (map mv g.edges)))
        ≡ map (remap_edge p) (keep_if both (map (move_from_all (this ∷ cs)) g.edges))
    edges-through = map-through mv (move_from_all (this ∷ cs)) both (remap_edge p) (move_from_all (map (renum new) cs)) g.edges both-kept edge-new

  -- sequences
  sequence-new : (c : LinearChain) → ((v : ℕ) → Memᴰ v (c.first ∷ c.rest) → Out v × (v < node_count g))
      → chain_sequence (vertex_sequence after) (renum new c) ≡ chain_sequence (vertex_sequence g) c
  unfolding chain_sequence
  sequence-new c F = ap concat (map_same new (vertex_sequence after) (vertex_sequence g) (c.first ∷ c.rest) (λ v m. let o = F v m in
      C.seq-after g h s y ys starts whole v o.1 o.0))

  write-through : (cs : List LinearChain) → Free cs → (vs : List (List ℕ)) → length vs ≡ node_count g
      → write_chains (vertex_sequence after) (map (renum new) cs) (keep_at (keeps (y ∷ ys)) 0 vs)
      ≡ keep_at (keeps (y ∷ ys)) 0 (write_chains (vertex_sequence g) cs vs)
  unfolding write_chains
  write-through [] F vs l = refl
  write-through (c ∷ cs) F vs l =
      let a = free-first c cs F in
      let t = chain_sequence (vertex_sequence g) c in
      let e : set (keep_at p 0 vs) (new c.first) t ≡ keep_at p 0 (set vs c.first t) =
      store c.first t (kept_out c.first a.0) (omega (arith, a.1, l)) in
      ap (λ (x : List ℕ). write_chains (vertex_sequence after) (map (renum new) cs) (set (keep_at p 0 vs) (new c.first) x))
      (sequence-new c (λ v m. F c (Memᴰ.head refl) v m))
      ∙ (ap (write_chains (vertex_sequence after) (map (renum new) cs)) e
      ∙ write-through cs (free-tail c cs F) (set vs c.first t) (length-set vs c.first t ∙ l))
    where
      store : (f : ℕ) (x : List ℕ) → keeps (y ∷ ys) f ≡ true → f < length vs
          → set (keep_at (keeps (y ∷ ys)) 0 vs) (rank (keeps (y ∷ ys)) f) x ≡ keep_at (keeps (y ∷ ys)) 0 (set vs f x)
      store f x k b = keep_at-set (keeps (y ∷ ys)) vs 0 f (rank (keeps (y ∷ ys)) f) x (rw zero-add k) (unfold rank in simp zero-add) b

  moved-through : (cs : List LinearChain) → Free cs → absorb_chains (map (renum new) cs) after ≡ compact_vertices (keeps (y ∷ ys)) (absorb_chains (this ∷ cs) g)
  unfolding absorb_chains merge_linear_chain remove_vertices_by_id compact_vertices write_chains chain_sequence
  moved-through cs F = λ i. record {
    k = g.k;
    verts = verts-through i;
    edges = edges-through cs F i;
  }
    where
      verts-through : write_chains (vertex_sequence after) (map (renum new) cs)
          (keep_at (keeps (y ∷ ys)) 0 (set g.verts s (concat (map (vertex_sequence g) (s ∷ y ∷ ys)))))
          ≡ keep_at (keeps (y ∷ ys)) 0 (write_chains (vertex_sequence g) cs (set g.verts s (concat (map (vertex_sequence g) (s ∷ y ∷ ys)))))
      verts-through = write-through cs F (set g.verts s (concat (map (vertex_sequence g) (s ∷ y ∷ ys)))) (unfold node_count in
          length-set g.verts s (concat (map (vertex_sequence g) (s ∷ y ∷ ys))))

  -- joining this chain and then the others is joining all of them
  pub merge_step : (cs : List LinearChain) → Free cs → merge_linear_chains (map (renum new) cs) after ≡ merge_linear_chains (this ∷ cs) g
  unfolding merge_linear_chains remove_vertices_by_id gone_of
  merge_step cs F =
      ap (compact_vertices (keeps (gone_of (map (renum new) cs)))) (moved-through cs F)
      ∙ (compact-compact p (keeps (gone_of cs)) (keeps (gone_of (map (renum new) cs))) (gone_same cs F) (absorb_chains (this ∷ cs) g)
      ∙ ap (λ (q : ℕ → Bool). compact_vertices q (absorb_chains (this ∷ cs) g)) (fun_ext (keeps-append (y ∷ ys) (gone_of cs))))
