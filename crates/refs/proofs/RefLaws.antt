-- The reference tests over the index are the definitions'. Assumes nothing.
use mathlib.Core.Path.{◌≡◌, refl, sym, ap, ◌∙◌}
use mathlib.Core.Bool.{Bool, true, false, cond, not, ◌&&◌, ◌||◌}
use mathlib.Core.Option.{Option, none, some}
use mathlib.Core.List.{List, [], ◌∷◌}
use Prim.Native.Nat.{ℕ, zero, suc, ◌+◌, ◌*◌, ◌-◌, ◌≤◌, ◌<◌}
use native.Mathlib.Nat.{add-zero}
use native.Mathlib.Numerals.{add-one}
use native.Mathlib.Omega.{arith}
use lib.ListN.{length, get_or}
use lib.Dec.{eqb}
use borrow.Author.Tests.{eqb-true, eqb-false, eq-eqb, ne_eqb}
use Rattle.defs.specs.Lists.{tab, keep_if, any_of, up_from, first_of}
use Rattle.defs.specs.SeqGraph.{Edge, Graph, node_count, edges_from, edges_into, is_reference_node, is_ref_source, is_ref_sink}
use Rattle.defs.specs.Cleanup.{reference_source_vertex, reference_sink_vertex}
use Rattle.laws.proofs.Walks.{by_test}
use Rattle.laws.proofs.Cleaned.{source_in, sink-in}
use Rattle.laws.proofs.ListLaws.{any-yes, any-no, any-map}
use Rattle.store.specs.Store.{edge_in, edges_in, graph_in}
use Rattle.compact.proofs.CompactLaws.{order-in}
use Rattle.index.specs.Index.{edge_end, at_from, incident_edges, Index}
use Rattle.index.proofs.AdjLaws.{at_head, at-step, at-end}
use Rattle.index.proofs.IndexLaws.{from_is, into-is}
use Rattle.refs.specs.Refs.{ref_at, RefNode, RefSource, RefSink, vertex_of, FirstSource, FirstSink}
use Rattle.std.specs.Prelude.{Some, None}
use Rattle.std.specs.Prelude as prelude

-- ---- a test of some edge at v, by the index: it is what is left from e on

pub record SeekingReference (f : ℕ → ℕ) (m v : ℕ) (p : ℕ → Bool) (e : ℕ) : Type 0 where
  pub high : e ≤ m
  pub hit : e < m → f e ≡ v
  pub left : any_of p (incident_edges f m v) ≡ any_of p (at_from f m v e)

module _ {f : ℕ → ℕ} {m n : ℕ} {head next : ℕ → ℕ} {v : ℕ} (I : Index f m n head next) (p : ℕ → Bool) where
  pub seeking-start : v < n → SeekingReference f m v p (head v)
  seeking-start h = let N = I.heads v h in record { high = N.high; hit = N.hit; left = ap (any_of p) (at_head f m n head next v I h) }

  pub seeking-more : {e : ℕ} → SeekingReference f m v p e → e < m → p e ≡ false → SeekingReference f m v p (next e)
  unfolding any_of
  seeking-more {e} W h q = let N = I.nexts e h in record {
    high = N.high;
    hit = λ b. N.hit b ∙ W.hit h;
    left = W.left ∙ ap (any_of p) (at-step f m n head next v e I h (W.hit h)) ∙ rw (q, any_of);
  }

  pub seeking-found : {e : ℕ} → SeekingReference f m v p e → e < m → p e ≡ true → true ≡ any_of p (incident_edges f m v)
  unfolding any_of
  seeking-found {e} W h q = sym (W.left ∙ ap (any_of p) (at-step f m n head next v e I h (W.hit h)) ∙ rw (q, any_of))

  pub seeking-end : {e : ℕ} → SeekingReference f m v p e → m ≤ e → false ≡ any_of p (incident_edges f m v)
  unfolding any_of
  seeking-end {e} W h = sym (W.left ∙ ap (any_of p) (at-end f m v e h))

-- ---- the definitions

module _ (k n m : ℕ) (es vs p : List ℕ) (v : ℕ) where
  pub any_out : any_of (λ (e : Edge). e.is_ref) (edges_from (graph_in k n m es vs p) v) ≡ any_of (ref_at es) (incident_edges (edge_end 0 es) m v)
  any_out = ap (any_of (λ (e : Edge). e.is_ref)) (from_is k n m es vs p v) ∙ any-map (λ (e : Edge). e.is_ref) (edge_in es) (incident_edges (edge_end 0 es) m v)

  pub any-in : any_of (λ (e : Edge). e.is_ref) (edges_into (graph_in k n m es vs p) v) ≡ any_of (ref_at es) (incident_edges (edge_end 1 es) m v)
  any-in = ap (any_of (λ (e : Edge). e.is_ref)) (into-is k n m es vs p v) ∙ any-map (λ (e : Edge). e.is_ref) (edge_in es) (incident_edges (edge_end 1 es) m v)

or-true : (a : Bool) → a || true ≡ true
or-true true = refl
or-true false = refl

-- a reference edge at v leaves it or enters it
node-split : (v : ℕ) (l : List Edge) → any_of (λ (e : Edge). e.is_ref && (eqb e.from v || eqb e.to v)) l
    ≡ any_of (λ (e : Edge). e.is_ref) (keep_if (λ (e : Edge). eqb e.from v) l) || any_of (λ (e : Edge). e.is_ref) (keep_if (λ (e : Edge). eqb e.to v) l)
unfolding keep_if
node-split v [] = unfold any_of in refl
node-split v (e ∷ l) = by_test e.is_ref
    (λ r. by_test (eqb e.from v)
    (λ a. any-yes _ e l (rw (r, a)) ∙ sym (rw a (ap (λ (x : Bool). x
    || any_of (λ (e : Edge). e.is_ref) (cond (eqb e.to v) (e ∷ keep_if (λ (e : Edge). eqb e.to v) l)
    (keep_if (λ (e : Edge). eqb e.to v) l))) (any-yes (λ (e : Edge). e.is_ref) e _ r))))
    (λ a. by_test (eqb e.to v)
    (λ b. any-yes _ e l (rw (r, a, b)) ∙ sym (rw (a, b) (ap (λ (x : Bool).
    any_of (λ (e : Edge). e.is_ref) (keep_if (λ (e : Edge). eqb e.from v) l) || x) (any-yes (λ (e : Edge). e.is_ref) e _ r)
    ∙ or-true (any_of (λ (e : Edge). e.is_ref) (keep_if (λ (e : Edge). eqb e.from v) l)))))
    (λ b. any-no _ e l (rw (r, a, b)) ∙ rw (a, b) (node-split v l))))
    (λ r. any-no _ e l (rw r) ∙ node-split v l ∙ sym ((λ i. drop-from (eqb e.from v) r i || drop-to (eqb e.to v) r i)))
  where
    drop-from : (t : Bool) → e.is_ref ≡ false → any_of (λ (e : Edge).
        e.is_ref) (cond t (e ∷ keep_if (λ (e : Edge). eqb e.from v) l) (keep_if (λ (e : Edge). eqb e.from v) l))
        ≡ any_of (λ (e : Edge). e.is_ref) (keep_if (λ (e : Edge). eqb e.from v) l)
    drop-from true r = any-no (λ (e : Edge). e.is_ref) e _ r
    drop-from false r = refl

    drop-to : (t : Bool) → e.is_ref ≡ false → any_of (λ (e : Edge).
        e.is_ref) (cond t (e ∷ keep_if (λ (e : Edge). eqb e.to v) l) (keep_if (λ (e : Edge). eqb e.to v) l))
        ≡ any_of (λ (e : Edge). e.is_ref) (keep_if (λ (e : Edge). eqb e.to v) l)
    drop-to true r = any-no (λ (e : Edge). e.is_ref) e _ r
    drop-to false r = refl

module _ (m n : ℕ) (es : List ℕ) (v : ℕ) where
  abbrev outs : Bool
  outs = any_of (ref_at es) (incident_edges (edge_end 0 es) m v)

  abbrev ins : Bool
  ins = any_of (ref_at es) (incident_edges (edge_end 1 es) m v)

  node-is : (k : ℕ) (vs p : List ℕ) → is_reference_node (graph_in k n m es vs p) v ≡ outs || ins
  unfolding is_reference_node edges_from edges_into
  node-is k vs p = node-split v (edges_in m es) ∙ (λ i. any_out k n m es vs p v i || any-in k n m es vs p v i)

  pub node-out : outs ≡ true → RefNode m n es v true
  node-out t = record { is = λ k vs p. sym (node-is k vs p ∙ rw t) }

  pub node_in : (r : Bool) → outs ≡ false → r ≡ ins → RefNode m n es v r
  node_in r t q = record { is = λ k vs p. q ∙ sym (node-is k vs p ∙ rw t) }

  source_is : (k : ℕ) (vs p : List ℕ) → is_ref_source (graph_in k n m es vs p) v ≡ eqb n 1 || (not ins && outs)
  unfolding is_ref_source
  source_is k vs p = λ i. eqb (order-in k n m es vs p i) 1 || (not (any-in k n m es vs p v i) && any_out k n m es vs p v i)

  sink-is : (k : ℕ) (vs p : List ℕ) → is_ref_sink (graph_in k n m es vs p) v ≡ eqb n 1 || (not outs && ins)
  unfolding is_ref_sink
  sink-is k vs p = λ i. eqb (order-in k n m es vs p i) 1 || (not (any_out k n m es vs p v i) && any-in k n m es vs p v i)

  pub source-single : n ≡ 1 → RefSource m n es v true
  source-single q = record { is = λ k vs p. sym (source_is k vs p ∙ rw (eq-eqb n 1 q)) }

  pub source-entered : (n ≡ 1 → ⊥) → ins ≡ true → RefSource m n es v false
  source-entered o t = record { is = λ k vs p. sym (source_is k vs p ∙ rw (ne_eqb n 1 o, t)) }

  pub source-left : (r : Bool) → (n ≡ 1 → ⊥) → ins ≡ false → r ≡ outs → RefSource m n es v r
  source-left r o t q = record { is = λ k vs p. q ∙ sym (source_is k vs p ∙ rw (ne_eqb n 1 o, t)) }

  pub sink-single : n ≡ 1 → RefSink m n es v true
  sink-single q = record { is = λ k vs p. sym (sink-is k vs p ∙ rw (eq-eqb n 1 q)) }

  pub sink-left : (n ≡ 1 → ⊥) → outs ≡ true → RefSink m n es v false
  sink-left o t = record { is = λ k vs p. sym (sink-is k vs p ∙ rw (ne_eqb n 1 o, t)) }

  pub sink-entered : (r : Bool) → (n ≡ 1 → ⊥) → outs ≡ false → r ≡ ins → RefSink m n es v r
  sink-entered r o t q = record { is = λ k vs p. q ∙ sym (sink-is k vs p ∙ rw (ne_eqb n 1 o, t)) }

-- ---- the first of the vertices

first-yes : (p : ℕ → Bool) (i n v : ℕ) → i ≤ v → v < i + n → ((k : ℕ) → i ≤ k → k < v → p k ≡ false) → p v ≡ true → first_of p (up_from i n) ≡ some v
unfolding first_of up_from
first-yes p i zero v a b o t = absurd (omega arith)
first-yes p i (suc n) v a b o t = by_test (p i)
    (λ s. rw (s, first_of) (ap some (below-here s)))
    (λ s. rw (s, first_of) (first-yes p (suc i) n v (further s) (omega arith) (λ k c d. o k (omega arith) d) t))
  where
    use-here : p i ≡ true → i < v → ⊥
    use-here s h = Rattle.laws.proofs.ListLaws.clash s (o i (omega arith) h)

    below-here : p i ≡ true → i ≡ v
    below-here s = Rattle.laws.proofs.ListLaws.by_order v i (λ h. omega arith) (λ h. absurd (use-here s (omega arith)))

    further : p i ≡ false → suc i ≤ v
    further s = Rattle.laws.proofs.ListLaws.by_order v i (λ h. let q : v ≡ i = omega arith in Rattle.laws.proofs.ListLaws.clash t (rw q s)) (λ h. omega arith)

first-no : (p : ℕ → Bool) (i n : ℕ) → ((k : ℕ) → i ≤ k → k < i + n → p k ≡ false) → first_of p (up_from i n) ≡ none
unfolding first_of up_from
first-no p i zero o = refl
first-no p i (suc n) o = rw (o i (omega arith) (omega arith), first_of) (first-no p (suc i) n (λ k a b. o k (omega arith) (omega arith)))

module _ {m n : ℕ} {es : List ℕ} where
  pub first-source : (v : ℕ) → v < n → ((k : ℕ) → k < v → RefSource m n es k false) → RefSource m n es v true → FirstSource m n es (Some v)
  first-source v h o t = record {
    is = λ k vs p. sym (unfold reference_source_vertex in (rw (order-in k n m es vs p)
        (first-yes (is_ref_source (graph_in k n m es vs p)) 0 n v (omega arith) (omega arith) (λ j a b. sym ((o j b).is k vs p))
        (sym (t.is k vs p)))));
  }

  pub no_source : (v : ℕ) → n ≤ v → ((k : ℕ) → k < v → RefSource m n es k false) → FirstSource m n es None
  no_source v h o = record {
    is = λ k vs p. sym (unfold reference_source_vertex in (rw (order-in k n m es vs p)
        (first-no (is_ref_source (graph_in k n m es vs p)) 0 n (λ j a b. sym ((o j (omega arith)).is k vs p)))));
  }

  pub first-sink : (v : ℕ) → v < n → ((k : ℕ) → k < v → RefSink m n es k false) → RefSink m n es v true → FirstSink m n es (Some v)
  first-sink v h o t = record {
    is = λ k vs p. sym (unfold reference_sink_vertex in (rw (order-in k n m es vs p)
        (first-yes (is_ref_sink (graph_in k n m es vs p)) 0 n v (omega arith) (omega arith) (λ j a b. sym ((o j b).is k vs p))
        (sym (t.is k vs p)))));
  }

  pub no-sink : (v : ℕ) → n ≤ v → ((k : ℕ) → k < v → RefSink m n es k false) → FirstSink m n es None
  no-sink v h o = record {
    is = λ k vs p. sym (unfold reference_sink_vertex in (rw (order-in k n m es vs p)
        (first-no (is_ref_sink (graph_in k n m es vs p)) 0 n (λ j a b. sym ((o j (omega arith)).is k vs p)))));
  }

-- what an answer says of the definition
module _ {m n : ℕ} {es : List ℕ} {r : prelude.Option ℕ} where
  pub source-found : FirstSource m n es r → {v : ℕ} → r ≡ Some v → (k : ℕ) (vs p : List ℕ) → reference_source_vertex (graph_in k n m es vs p) ≡ some v
  source-found F q k vs p = sym (F.is k vs p) ∙ ap vertex_of q

  pub source-missing : FirstSource m n es r → r ≡ None → (k : ℕ) (vs p : List ℕ) → reference_source_vertex (graph_in k n m es vs p) ≡ none
  source-missing F q k vs p = sym (F.is k vs p) ∙ ap vertex_of q

  pub source-below : FirstSource m n es r → {v : ℕ} → r ≡ Some v → v < n
  source-below F {v} q = omega (arith, source_in (graph_in 0 n m es [] []) v (source-found F q 0 [] []), order-in 0 n m es [] [])

  pub sink-found : FirstSink m n es r → {v : ℕ} → r ≡ Some v → (k : ℕ) (vs p : List ℕ) → reference_sink_vertex (graph_in k n m es vs p) ≡ some v
  sink-found F q k vs p = sym (F.is k vs p) ∙ ap vertex_of q

  pub sink-missing : FirstSink m n es r → r ≡ None → (k : ℕ) (vs p : List ℕ) → reference_sink_vertex (graph_in k n m es vs p) ≡ none
  sink-missing F q k vs p = sym (F.is k vs p) ∙ ap vertex_of q

  pub sink-below : FirstSink m n es r → {v : ℕ} → r ≡ Some v → v < n
  sink-below F {v} q = omega (arith, sink-in (graph_in 0 n m es [] []) v (sink-found F q 0 [] []), order-in 0 n m es [] [])

-- an answer under its value
pub source-as : {m n : ℕ} {es : List ℕ} {v : ℕ} {r b : Bool} → r ≡ b → RefSource m n es v r → RefSource m n es v b
source-as q S = record { is = λ k vs p. sym q ∙ S.is k vs p }

pub sink-as : {m n : ℕ} {es : List ℕ} {v : ℕ} {r b : Bool} → r ≡ b → RefSink m n es v r → RefSink m n es v b
sink-as q S = record { is = λ k vs p. sym q ∙ S.is k vs p }
