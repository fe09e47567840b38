-- Noting the places, and copying the edges in order. Assumes nothing.
use mathlib.Core.Path.{◌≡◌, refl, sym, ap, ◌∙◌}
use mathlib.Core.List.{List}
use Prim.Native.Nat.{ℕ, ◌+◌, ◌*◌, ◌≤◌, ◌<◌}
use native.Mathlib.Omega.{arith}
use native.Mathlib.Decide.{ℕ_discrete}
use lib.ListN.{length, get_or, set, length-set}
use lib.Seq.{get_or-set_same, get_or-set_other}
use Rattle.defs.specs.Lists.{tab}
use Rattle.defs.specs.SeqGraph.{Edge}
use Rattle.defs.specs.Assembly.{additional_sequence, from_assembly_graph}
use Rattle.tabs.proofs.Tabs.{tab-ext, get_or-tab}
use Rattle.store.specs.Store.{edge, edge_in, edges_in, put_edge, graph_in, EndsBelow, Within}
use Rattle.compact.proofs.CompactLaws.{order-in}
use Rattle.store.proofs.EdgeLaws.{length-put, put_same, put_other}
use Rattle.sort.specs.Sort.{Permutation, Sortable}
use Rattle.sort.proofs.PermutationLaws.{stands-once}
use Rattle.kmer_order.specs.Order.{KmerOrder}
use Rattle.edge_order.specs.Order.{Keyed, EdgeOrder}
use Rattle.convert.specs.Convert.{Trimmed, Separate, Places, Convertible, EdgesSorted}
use Rattle.convert.proofs.PlaceLaws.{places-sorted}

-- ---- places

pub record Placing (n : ℕ) (order place₀ place : List ℕ) (i : ℕ) : Type 0 where
  pub high : i ≤ n
  pub len : length place ≡ length place₀
  pub done : (j : ℕ) → j < i → get_or place (get_or order j 0) 0 ≡ j

pub placing-start : {n : ℕ} {order place : List ℕ} → Placing n order place place 0
placing-start = record { high = omega arith; len = refl; done = λ j b. absurd (omega arith) }

module _ {n : ℕ} {order place₀ : List ℕ} (N : Permutation n order) {place : List ℕ} {i : ℕ} (P : Placing n order place₀ place i) where
  pub placing-more : n ≤ length place₀ → i < n → Placing n order place₀ (set place (get_or order i 0) i) (i + 1)
  placing-more r h = record {
    high = omega arith;
    len = length-set place _ _ ∙ P.len;
    done = λ j b. elim (ℕ_discrete j i) [
      | yes q ↦ rw q (get_or-set_same place (get_or order i 0) i 0 (omega (arith, N.below i h, P.len)))
      | no ne ↦ get_or-set_other place (get_or order i 0) (get_or order j 0) i 0 (λ q. ne (stands-once N j i (omega arith) h q)) ∙ P.done j (omega arith)
    ];
  }

  pub placing-end : n ≤ i → Places n order place
  placing-end h = record { at = λ j b. P.done j (omega arith) }

-- ---- edges

pub record CopyingEdges (m : ℕ) (es order out₀ out : List ℕ) (i : ℕ) : Type 0 where
  pub high : i ≤ m
  pub len : length out ≡ length out₀
  pub done : (j : ℕ) → j < i → edge_in out j ≡ edge_in es (get_or order j 0)

pub copying-start : {m : ℕ} {es order out : List ℕ} → CopyingEdges m es order out out 0
copying-start = record { high = omega arith; len = refl; done = λ j b. absurd (omega arith) }

module _ {m : ℕ} {es order out₀ out : List ℕ} {i : ℕ} (C : CopyingEdges m es order out₀ out i) where
  pub copying-more : {a b s r : ℕ} {out' : List ℕ} → 4 * m ≤ length out₀ → i < m → a ≡ get_or es (4 * get_or order i 0) 0 → b
      ≡ get_or es (4 * get_or order i 0 + 1) 0 → s ≡ get_or es (4 * get_or order i 0 + 2) 0 → r ≡ get_or es (4 * get_or order i 0 + 3) 0
      → out' ≡ put_edge out i a b s r → CopyingEdges m es order out₀ out' (i + 1)
  copying-more {a} {b} {s} {r} {out'} room h qa qb qs qr e = record {
    high = omega arith;
    len = ap length e ∙ length-put out i a b s r ∙ C.len;
    done = λ j c. elim (ℕ_discrete j i) [
      | yes q ↦ rw q (ap (λ (l : List ℕ). edge_in l i) e ∙ put_same out i a b s r (omega (arith, C.len)) ∙ (λ x. edge (qa x) (qb x) (qs x) (qr x)))
      | no ne ↦ ap (λ (l : List ℕ). edge_in l j) e ∙ put_other out i a b s r j ne ∙ C.done j (omega arith)
    ];
  }

  pub copying-end : m ≤ i → edges_in m out ≡ tab m (λ (j : ℕ). edge_in es (get_or order j 0))
  copying-end h = tab-ext m (edge_in out) (λ (j : ℕ). edge_in es (get_or order j 0)) (λ j b. C.done j (omega arith))

-- ---- all together

module _ {m n : ℕ} {es order scratch place out : List ℕ} (C : Convertible m n es order scratch place out) where
  pub edges-sortable : {place' : List ℕ} → length place' ≡ length place → Sortable (Keyed es place') m order scratch
  edges-sortable c = record {
    order-room = C.order-edges;
    scratch-room = C.scratch-edges;
    small = C.few-edges;
    keys = λ e h. record {
      room = omega (arith, C.es-room);
      from = omega (arith, (C.ends.at e h).0, C.place-room);
      to = omega (arith, (C.ends.at e h).1, C.place-room);
    };
  }

  -- an edge of `out` is one of es
  copied-ends : {place₁ order' out' : List ℕ} → EdgeOrder m es place₁ order' → edges_in m out'
      ≡ tab m (λ (j : ℕ). edge_in es (get_or order' j 0)) → EndsBelow n m out'
  copied-ends {order' = order'} {out' = out'} O e = record {
    at = λ j b. let z = C.ends.at (get_or order' j 0) (O.numbers.below j b) in
        let q = same j b in (omega (arith, z.0, ap (λ (x : Edge). x.from) q), omega (arith, z.1, ap (λ (x : Edge). x.to) q));
  }
    where
      same : (j : ℕ) → j < m → edge_in out' j ≡ edge_in es (get_or order' j 0)
      same j b = sym (get_or-tab m (edge_in out') j (edge 0 0 0 0) b) ∙ ap (λ (l : List Edge). get_or l j (edge 0 0 0 0)) e
          ∙ get_or-tab m (λ (j : ℕ). edge_in es (get_or order' j 0)) j (edge 0 0 0 0) b

  pub edges-done : {place₁ order₂ out' : List ℕ} → Places n order place₁ → EdgeOrder m es place₁ order₂
      → edges_in m out' ≡ tab m (λ (j : ℕ). edge_in es (get_or order₂ j 0)) → EdgesSorted m n es order out'
  edges-done P O e = record {
    is = λ k vs p S K. e ∙ places-sorted S K P k C.ends O;
    ends = copied-ends O e;
  }

-- the sorted edges and the additional sequences are the converted graph
pub converted : {m n : ℕ} {es vs vs' order out : List ℕ} (k : ℕ) (p : List ℕ) → Within (length p) n vs → Separate m n es vs p
    → KmerOrder n vs p order → Trimmed m n es vs vs' → EdgesSorted m n es order out → graph_in k n m out vs' p
    ≡ from_assembly_graph (graph_in k n m es vs p)
unfolding from_assembly_graph
converted {m} {n} {es} {vs} {vs'} k p W A K T S = λ i. record {
  k = k;
  verts = (T.is k p W ∙ ap (λ (x : ℕ). tab x (additional_sequence (graph_in k n m es vs p))) (sym (order-in k n m es vs p))) i;
  edges = S.is k vs p A K i;
}
