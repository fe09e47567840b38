-- The empty second vertex in slices. Assumes nothing.
use mathlib.Core.Path.{◌≡◌, refl, sym, ap, ◌∙◌}
use mathlib.Core.Bool.{true, false}
use mathlib.Core.List.{List, [], ◌∷◌}
use Prim.Native.Nat.{ℕ, zero, suc, ◌+◌, ◌*◌, ◌≤◌, ◌<◌}
use native.Mathlib.Omega.{arith}
use lib.ListN.{length, get_or, set, length-set}
use lib.Seq.{get_or-set_same, get_or-set_other}
use Rattle.defs.specs.Lists.{tab_from}
use Rattle.defs.specs.SeqGraph.{Graph, node_count}
use Rattle.defs.specs.Cleanup.{with_dummy_vertex}
use Rattle.laws.proofs.Whole.{by_list}
use Rattle.laws.proofs.Cleaned.{sink-nil, sink-one, sink-more}
use Rattle.store.specs.Store.{put_edge, put_vertex, part, seq_in, seqs_in, graph_in, Within}
use Rattle.store.proofs.EdgeLaws.{put_same}
use Rattle.compact.proofs.CompactLaws.{order-in}
use Rattle.memory.specs.Memory.{graph_of}
use Rattle.memory.specs.declared.Held.{Held}
use Rattle.dummy_vertex.specs.Dummy.{DummyAdded}

-- ---- no single vertex

not-single : (g : Graph) → (node_count g ≡ 1 → ⊥) → with_dummy_vertex g ≡ g
unfolding node_count
not-single g ne = by_list g.verts
    (λ t. sink-nil g t)
    (λ v vs t. by_list vs
    (λ u. absurd (ne (ap length t ∙ ap (λ (l : List (List ℕ)). suc (length l)) u)))
    (λ w ws u. sink-more g v w ws (t ∙ ap (λ (l : List (List ℕ)). v ∷ l) u)))

pub dummy-none : (h : Held) {es vs : List ℕ} → (h.n ≡ 1 → ⊥) → DummyAdded h es vs h es vs
dummy-none h {es} {vs} ne = record {
  is = λ p. sym (not-single (graph_of h es vs p) (λ q. ne (sym (order-in h.k.0 h.n h.m es vs p) ∙ q)));
  within = λ used W. W;
  used-is = refl;
}

-- ---- a single vertex

module _ (vs : List ℕ) (room : 4 ≤ length vs) where
  put-start : get_or (put_vertex vs 1 0 0) 2 0 ≡ 0
  unfolding put_vertex
  put-start = get_or-set_other (set vs 2 0) 3 2 0 0 (λ q. omega arith) ∙ get_or-set_same vs 2 0 0 (omega arith)

  put-len : get_or (put_vertex vs 1 0 0) 3 0 ≡ 0
  unfolding put_vertex
  put-len = get_or-set_same (set vs 2 0) 3 0 0 (omega (arith, length-set vs 2 0))

  put-before : (x : ℕ) → x < 2 → get_or (put_vertex vs 1 0 0) x 0 ≡ get_or vs x 0
  unfolding put_vertex
  put-before x l = get_or-set_other (set vs 2 0) 3 x 0 0 (λ q. omega arith) ∙ get_or-set_other vs 2 x 0 0 (λ q. omega arith)

  first-same : (p : List ℕ) → seq_in (put_vertex vs 1 0 0) p 0 ≡ seq_in vs p 0
  first-same p = λ i. part p (put-before 0 (omega arith) i) (put-before 1 (omega arith) i)

  second_empty : (p : List ℕ) → seq_in (put_vertex vs 1 0 0) p 1 ≡ []
  second_empty p = λ i. part p (put-start i) (put-len i)

  two-within : (used : ℕ) → Within used 1 vs → Within used 2 (put_vertex vs 1 0 0)
  two-within used W = record { at = at }
    where
      at : (v : ℕ) → v < 2 → get_or (put_vertex vs 1 0 0) (2 * v) 0 + get_or (put_vertex vs 1 0 0) (2 * v + 1) 0 ≤ used
      at zero b = omega (arith, put-before 0 (omega arith), put-before 1 (omega arith), W.at 0 (omega arith))
      at (suc zero) b = omega (arith, put-start, put-len)
      at (suc (suc v)) b = absurd (omega arith)

module _ (h : Held) (es vs : List ℕ) (e-room : 4 ≤ length es) (v-room : 4 ≤ length vs) (one : h.n ≡ 1) where
  single : (p : List ℕ) → (graph_of h es vs p).verts ≡ seq_in vs p 0 ∷ []
  unfolding tab_from
  single p = ap (λ (n : ℕ). seqs_in n vs p) one

  both_is : (p : List ℕ) → graph_in h.k.0 2 1 (put_edge es 0 0 1 0 1) (put_vertex vs 1 0 0) p
      ≡ record { k = h.k.0; verts = seq_in vs p 0 ∷ [] ∷ []; edges = record { from = 0; to = 1; support = 0; is_ref = true; capped = false } ∷ [] }
  unfolding tab_from
  both_is p = λ i. record {
    k = h.k.0;
    verts = first-same vs v-room p i ∷ second_empty vs v-room p i ∷ [];
    edges =
        put_same es 0 0 1 0 1 (omega arith) i ∷ [];
  }

  pub dummy-one : {r : Held} {es' vs' : List ℕ} → vs' ≡ put_vertex vs 1 0 0 → es' ≡ put_edge es 0 0 1 0 1 → r
      ≡ record { k = h.k; n = 2; m = 1; used = h.used } → DummyAdded h es vs r es' vs'
  dummy-one a b q = rw (a, b, q) record {
    is = λ p. both_is p ∙ sym (sink-one (graph_of h es vs p) (seq_in vs p 0) (single p));
    within = λ used W. two-within vs v-room used (rw one at W);
    used-is = refl;
  }
