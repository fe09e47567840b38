-- Edges that go, by the definition. Assumes nothing.
use mathlib.Core.Path.{◌≡◌, refl, sym, ap, ◌∙◌}
use mathlib.Core.Bool.{Bool, true, false, not, ◌&&◌, ◌||◌}
use mathlib.Core.List.{List, [], ◌∷◌, Memᴰ}
use Prim.Native.Nat.{ℕ, zero, suc, ◌<◌}
use native.Mathlib.Omega.{arith}
use lib.ListN.{length}
use Rattle.defs.specs.Lists.{keep_if, any_of, elem_of, up_from}
use Rattle.defs.specs.SeqGraph.{Edge, Graph, node_count}
use Rattle.defs.specs.Cleanup.{forward, grow, reached, leads_to_source, leads_from_sink, without_non_ref_edges, clean_between, clean_non_ref_paths}
use Rattle.defs.specs.Cleanup.{remove_singleton_orphan_vertices}
use Rattle.laws.proofs.Walks.{by_test}
use Rattle.laws.proofs.ListLaws.{keep_if-yes, keep_if-no, keep_if-same}
use Rattle.store.specs.Store.{edges_in, graph_in, EndsBelow}
use Rattle.compact.specs.Compact.{Compactable}
use Rattle.compact.proofs.CompactLaws.{ends-mem}
use Rattle.index.specs.Index.{Indexed, Indexable, end_at}
use Rattle.memory.specs.Memory.{graph_of}
use Rattle.memory.specs.declared.Held.{Held}
use Rattle.refs.specs.Refs.{FirstSource, FirstSink}
use Rattle.std.specs.Prelude as prelude
use Rattle.std.specs.Prelude.{Some, None}
use Rattle.refs.proofs.RefLaws.{source-found, source-missing, sink-found, sink-missing}
use Rattle.reach.specs.Reach.{step_of, walk_step, Reached}
use Rattle.orphans.specs.Orphans.{Reduced}
use Rattle.non_ref_paths.specs.CleanNonRef.{stays_by, leads, EdgesKept, EdgesDropped}

-- ---- the marks say which edges go

end_below : (off n m : ℕ) (es : List ℕ) → EndsBelow n m es → (e : Edge) → Memᴰ e (edges_in m es) → end_at off e < n
unfolding end_at
end_below zero n m es E e k = (ends-mem E e k).0
end_below (suc off) n m es E e k = (ends-mem E e k).1

pub dropped : {kind m n : ℕ} {es : List ℕ} {s : ℕ} {marks : List ℕ} {r : ℕ} {es' : List ℕ} → EndsBelow n m es
    → Reached true kind m n es s marks → EdgesKept kind n m es marks r es' → EdgesDropped kind m n es s r es'
dropped {kind} {m} {n} {es} {s} {marks} E R K = record {
  most = K.most;
  is = λ k vs p. K.is
      ∙ keep_if-same (stays_by kind marks) (λ (e : Edge). not (leads kind (graph_in k n m es vs p) s e)) (edges_in m es) (same k vs p);
}
  where
    same : (k : ℕ) (vs p : List ℕ) (e : Edge) → Memᴰ e (edges_in m es) → stays_by kind marks e ≡ not (leads kind (graph_in k n m es vs p) s e)
    same k vs p e i = unfold stays_by leads in (ap (λ (b : Bool). not (not e.is_ref && b)) (R.at k vs p (end_at kind e) (end_below kind n m es E e i)))

pub kept-indexable : {off m n : ℕ} {es marks : List ℕ} {r : ℕ} {es' heads nexts : List ℕ} → Indexed m n es heads nexts → m < 4294967296
    → EdgesKept off n m es marks r es' → length es' ≡ length es → Indexable r n es' heads nexts
kept-indexable X s K a = record {
  room = omega (arith, K.most, X.room);
  heads-room = X.heads-room;
  nexts-room =
      omega (arith, K.most, X.nexts-room);
  small = omega (arith, K.most);
  ends = K.ends;
}

-- ---- a walk in what is left of the edges

keep_if-keep_if : {A : Type 0} (p q : A → Bool) (l : List A) → keep_if q (keep_if p l) ≡ keep_if (λ x. p x && q x) l
unfolding keep_if
keep_if-keep_if p q [] = refl
keep_if-keep_if p q (x ∷ l) = by_test (p x)
    (λ t. ap (keep_if q) (keep_if-yes p x l t) ∙ by_test (q x)
    (λ u. keep_if-yes q x (keep_if p l) u ∙ ap (λ r. x ∷ r) (keep_if-keep_if p q l) ∙ sym (keep_if-yes (λ y. p y && q y) x l (rw t u)))
    (λ u. keep_if-no q x (keep_if p l) u ∙ keep_if-keep_if p q l ∙ sym (keep_if-no (λ y. p y && q y) x l (rw t u))))
    (λ t. ap (keep_if q) (keep_if-no p x l t) ∙ keep_if-keep_if p q l ∙ sym (keep_if-no (λ y. p y && q y) x l (rw t)))

any-cons : {A : Type 0} (p : A → Bool) (x : A) (l : List A) → any_of p (x ∷ l) ≡ (p x || any_of p l)
unfolding any_of
any-cons p x l = by_test (p x) (λ t. rw (t, any_of)) (λ t. rw (t, any_of))

any_none : {A : Type 0} (l : List A) → any_of (λ (x : A). false) l ≡ false
unfolding any_of
any_none [] = refl
any_none (x ∷ l) = any_none l

module _ (q : Edge → Bool) (step step' : Edge → ℕ → ℕ → Bool) (is : (e : Edge) (u v : ℕ) → step' e u v ≡ (q e && step e u v)) where
  open-same : (e : Edge) (v : ℕ) (seen : List ℕ) → q e ≡ true → any_of (λ u. step' e u v) seen ≡ any_of (λ u. step e u v) seen
  open-same e v seen t = ap (λ f. any_of f seen) (λ i u. (is e u v ∙ ap (λ (b : Bool). b && step e u v) t) i)

  shut-same : (e : Edge) (v : ℕ) (seen : List ℕ) → q e ≡ false → any_of (λ u. step' e u v) seen ≡ false
  shut-same e v seen t = ap (λ f. any_of f seen) (λ i u. (is e u v ∙ ap (λ (b : Bool). b && step e u v) t) i) ∙ any_none seen

  any-kept : (v : ℕ) (seen : List ℕ) (l : List Edge) → any_of (λ e. any_of (λ u. step e u v) seen) (keep_if q l) ≡ any_of (λ e. any_of (λ u. step' e u v) seen) l
  unfolding keep_if any_of
  any-kept v seen [] = refl
  any-kept v seen (e ∷ l) = by_test (q e)
      (λ t. ap (any_of (λ e. any_of (λ u. step e u v) seen)) (keep_if-yes q e l t) ∙ any-cons (λ e. any_of (λ u. step e u v) seen) e (keep_if q l)
      ∙ (λ i. sym (open-same e v seen t) i || any-kept v seen l i) ∙ sym (any-cons (λ e. any_of (λ u. step' e u v) seen) e l))
      (λ t. ap (any_of (λ e. any_of (λ u. step e u v) seen)) (keep_if-no q e l t) ∙ any-kept v seen l
      ∙ sym (any-cons (λ e. any_of (λ u. step' e u v) seen) e l ∙ ap (λ (b : Bool). b || any_of (λ e. any_of (λ u. step' e u v) seen) l) (shut-same e v seen t)))

  module _ (g g' : Graph) (verts-same : g'.verts ≡ g.verts) (edges-kept : g'.edges ≡ keep_if q g.edges) where
    count_same : node_count g' ≡ node_count g
    unfolding node_count
    count_same = ap length verts-same

    grow-kept : (n : ℕ) (seen : List ℕ) → grow step g' n seen ≡ grow step' g n seen
    unfolding grow
    grow-kept zero seen = refl
    grow-kept (suc n) seen = grow-kept n _ ∙ ap (grow step' g n) more
      where
        found : (v : ℕ) → any_of (λ e. any_of (λ u. step e u v) seen) g'.edges ≡ any_of (λ e. any_of (λ u. step' e u v) seen) g.edges
        found v = ap (any_of (λ e. any_of (λ u. step e u v) seen)) edges-kept ∙ any-kept v seen g.edges

        more : keep_if (λ v. elem_of v seen || any_of (λ e. any_of (λ u. step e u v) seen) g'.edges) (up_from 0 (node_count g'))
            ≡ keep_if (λ v. elem_of v seen || any_of (λ e. any_of (λ u. step' e u v) seen) g.edges) (up_from 0 (node_count g))
        more = λ i. keep_if (λ v. elem_of v seen || found v i) (up_from 0 (count_same i))

    pub reached-kept : (s : ℕ) → reached step g' s ≡ reached step' g s
    unfolding reached
    reached-kept s = ap (λ (n : ℕ). grow step g' n (s ∷ [])) count_same ∙ grow-kept (node_count g) (s ∷ [])

-- ---- both walks

swap : (a b c : Bool) → (a && (not b && c)) ≡ (not b && (a && c))
swap true b c = refl
swap false true c = refl
swap false false c = refl

both : (a f c : Bool) → (not a && not (f && c)) ≡ not (a || (f && (not a && c)))
both true f c = refl
both false f c = refl

module _ (g g₁ : Graph) (s t : ℕ) (verts-same : g₁.verts ≡ g.verts) (edges-kept : g₁.edges ≡ keep_if (λ (e : Edge). not (leads 1 g s e)) g.edges) where
  to-source : (e : Edge) → leads 1 g s e ≡ leads_to_source g s e
  unfolding leads leads_to_source end_at walk_step step_of
  to-source e = refl

  sink-walk : reached (walk_step true 0) g₁ t ≡ reached (λ (d : Edge) (u v : ℕ). not d.is_ref && (not (leads_to_source g s d) && forward d u v)) g t
  sink-walk = reached-kept (λ (e : Edge). not (leads 1 g s e)) (walk_step true 0) (λ (d : Edge) (u v : ℕ). not d.is_ref
      && (not (leads_to_source g s d) && forward d u v)) steps g g₁ verts-same edges-kept t
    where
      steps : (e : Edge) (u v : ℕ) → (not e.is_ref && (not (leads_to_source g s e) && forward e u v)) ≡ (not (leads 1 g s e) && walk_step true 0 e u v)
      steps e u v = unfold walk_step step_of in (swap (not e.is_ref) (leads_to_source g s e) (forward e u v)
          ∙ ap (λ (b : Bool). not b && (not e.is_ref && forward e u v)) (sym (to-source e)))

  stays-both : (e : Edge) → (not (leads 1 g s e) && not (leads 0 g₁ t e)) ≡ not (leads_to_source g s e || leads_from_sink g s t e)
  unfolding leads_from_sink leads end_at
  stays-both e =
      ap (λ (b : Bool). not b && not (leads 0 g₁ t e)) (to-source e)
      ∙ ap (λ (l : List ℕ). not (leads_to_source g s e) && not (not e.is_ref && elem_of e.from l)) sink-walk
      ∙ both (leads_to_source g s e) (not e.is_ref) (elem_of e.from
      (reached (λ (d : Edge) (u v : ℕ). not d.is_ref && (not (leads_to_source g s d) && forward d u v)) g t))

  pub both-walks : keep_if (λ (e : Edge). not (leads 0 g₁ t e)) g₁.edges
      ≡ keep_if (λ (e : Edge). not (leads_to_source g s e || leads_from_sink g s t e)) g.edges
  both-walks =
      ap (keep_if (λ (e : Edge). not (leads 0 g₁ t e))) edges-kept
      ∙ keep_if-keep_if (λ (e : Edge). not (leads 1 g s e)) (λ (e : Edge). not (leads 0 g₁ t e)) g.edges
      ∙ ap (λ (f : Edge → Bool). keep_if f g.edges) (λ i e. stays-both e i)

-- ---- in slices

module _ (h : Held) (s t : ℕ) {es es₁ es₂ : List ℕ} {a b : ℕ} (A : EdgesDropped 1 h.m h.n es s a es₁) (B : EdgesDropped 0 a h.n es₁ t b es₂) where
  abbrev left : Held
  left = record { k = h.k; n = h.n; m = b; used = h.used }

  pub left_is : (vs p : List ℕ) → graph_of left es₂ vs p ≡ without_non_ref_edges (graph_of h es vs p) s t
  unfolding without_non_ref_edges
  left_is vs p = λ i. record {
    k = h.k.0;
    verts = (graph_of h es vs p).verts;
    edges = (B.is h.k.0 vs p ∙ both-walks (graph_of h es vs p) (graph_in h.k.0 h.n a es₁ vs p) s t refl (A.is h.k.0 vs p)) i;
  }

  pub left-compactable : {vs mp : List ℕ} → Compactable h.n h.m es vs mp → length es₂ ≡ length es → EndsBelow h.n b es₂
      → Compactable h.n b es₂ vs mp
  left-compactable C q E = record {
    es-room = omega (arith, A.most, B.most, C.es-room);
    vs-room = C.vs-room;
    mp-room = C.mp-room;
    small = C.small;
    ends = E;
  }

  pub between-reduced : {vs : List ℕ} {r : Held} {es₃ vs₃ : List ℕ} {l : Held} → l ≡ left → Reduced remove_singleton_orphan_vertices l es₂ vs r es₃ vs₃
      → Reduced (λ (g : Graph). remove_singleton_orphan_vertices (without_non_ref_edges g s t)) h es vs r es₃ vs₃
  between-reduced {vs} q R = let R' = rw q at R in record {
    is = λ p. R'.is p ∙ ap remove_singleton_orphan_vertices (left_is vs p);
    most-n = R'.most-n;
    most-m = omega (arith, R'.most-m, A.most, B.most);
    ends = R'.ends;
    within = R'.within;
    used-is = R'.used-is;
  }

-- ---- the choice

pub untouched : (h : Held) {es vs : List ℕ} → EndsBelow h.n h.m es
    → ((p : List ℕ) → clean_non_ref_paths (graph_of h es vs p) ≡ graph_of h es vs p) → Reduced clean_non_ref_paths h es vs h es vs
untouched h E same = record { is = λ p. sym (same p); most-n = omega arith; most-m = omega arith; ends = E; within = λ used W. W; used-is = refl }

module _ (h : Held) (es vs : List ℕ) {r : prelude.Option ℕ} (F : FirstSource h.m h.n es r) where
  pub no_source : r ≡ None → (p : List ℕ) → clean_non_ref_paths (graph_of h es vs p) ≡ graph_of h es vs p
  unfolding clean_non_ref_paths clean_between
  no_source l p = rw (source-missing F l h.k.0 vs p)

  module _ {s : ℕ} (k : r ≡ Some s) {r' : prelude.Option ℕ} (T : FirstSink h.m h.n es r') where
    pub no-sink : r' ≡ None → (p : List ℕ) → clean_non_ref_paths (graph_of h es vs p) ≡ graph_of h es vs p
    unfolding clean_non_ref_paths clean_between
    no-sink l p = rw (source-found F k h.k.0 vs p, sink-missing T l h.k.0 vs p)

    pub chosen_is : {t : ℕ} → r' ≡ Some t → (p : List ℕ)
        → remove_singleton_orphan_vertices (without_non_ref_edges (graph_of h es vs p) s t) ≡ clean_non_ref_paths (graph_of h es vs p)
    unfolding clean_non_ref_paths clean_between
    chosen_is l p = rw (source-found F k h.k.0 vs p, sink-found T l h.k.0 vs p)
