-- Whole k-mers and last bytes. Assumes nothing.
use mathlib.Core.Path.{◌≡◌, refl, sym, ap, ◌∙◌}
use mathlib.Core.Bool.{Bool, true, false, cond}
use mathlib.Core.List.{List, []}
use Prim.Native.Nat.{ℕ, ◌+◌, ◌*◌, ◌-◌, ◌≤◌, ◌<◌}
use native.Mathlib.Omega.{arith}
use native.Mathlib.Decide.{ℕ_discrete}
use lib.ListN.{length, get_or, drop}
use lib.Dec.{eqb}
use borrow.Author.Tests.{eq-eqb, ne_eqb}
use Rattle.defs.specs.SeqGraph.{vertex_sequence}
use Rattle.defs.specs.Assembly.{additional_sequence}
use Rattle.tabs.proofs.Tabs.{tab-ext, get_or-tab}
use Rattle.store.specs.Store.{part, seq_in, graph_in, put_vertex}
use Rattle.store.proofs.VertexLaws.{last-part, put-start, put-len, put_rest, length-put-vertex}
use Rattle.index.specs.Index.{edge_end, incident_edges, Indexed}
use Rattle.index.proofs.IndexLaws.{in-degree-is, at_none, at_first}
use Rattle.convert.specs.Convert.{Trimmable, Trimmed}

-- ---- the loop: the vertices before v are done

-- a vertex has its place: the k-mer's, or its last byte's
pub record TrimmedPlace (m : ℕ) (es vs₀ vs : List ℕ) (u : ℕ) : Type 0 where
  pub start : get_or vs (2 * u) 0 ≡ cond (eqb (length (incident_edges (edge_end 1 es) m u)) 0) (get_or vs₀ (2 * u) 0) (get_or vs₀ (2 * u) 0 + (get_or vs₀ (2 * u + 1) 0 - 1))
  pub len : get_or vs (2 * u + 1) 0 ≡ cond (eqb (length (incident_edges (edge_end 1 es) m u)) 0) (get_or vs₀ (2 * u + 1) 0) 1

pub record Trimming (m n : ℕ) (es vs₀ vs : List ℕ) (v : ℕ) : Type 0 where
  pub high : v ≤ n
  pub size : length vs ≡ length vs₀
  pub done : (u : ℕ) → u < v → TrimmedPlace m es vs₀ vs u
  pub start-rest : (u : ℕ) → v ≤ u → get_or vs (2 * u) 0 ≡ get_or vs₀ (2 * u) 0
  pub len-rest : (u : ℕ) → v ≤ u → get_or vs (2 * u + 1) 0 ≡ get_or vs₀ (2 * u + 1) 0

pub trimming-start : {m n : ℕ} {es vs : List ℕ} → Trimming m n es vs vs 0
trimming-start = record { high = omega arith; size = refl; done = λ u b. absurd (omega arith); start-rest = λ u b. refl; len-rest = λ u b. refl }

module _ {m n : ℕ} {es heads nexts vs₀ : List ℕ} (T : Trimmable n vs₀) (I : Indexed m n es heads nexts) {vs : List ℕ} {v : ℕ} (W :
    Trimming m n es vs₀ vs v) (h : v < n) where
  none_in : m ≤ get_or heads (2 * v + 1) 0 → eqb (length (incident_edges (edge_end 1 es) m v)) 0 ≡ true
  none_in b = eq-eqb _ 0 (ap length (at_none (I.index 1 (omega arith)) h (get_or heads (2 * v + 1) 0) refl b))

  some_in : get_or heads (2 * v + 1) 0 < m → eqb (length (incident_edges (edge_end 1 es) m v)) 0 ≡ false
  some_in b = ne_eqb _ 0 (λ (z : length (incident_edges (edge_end 1 es) m v) ≡ 0).
      omega (arith, ap length (at_first (I.index 1 (omega arith)) h (get_or heads (2 * v + 1) 0) refl b)))

  pub trimming-kept : m ≤ get_or heads (2 * v + 1) 0 → Trimming m n es vs₀ vs (v + 1)
  trimming-kept b = record {
    high = omega arith;
    size = W.size;
    done = λ u c. elim (ℕ_discrete u v) [
      | yes q ↦ rw q (record { start = W.start-rest v (omega arith) ∙ rw (none_in b); len = W.len-rest v (omega arith) ∙ rw (none_in b) })
      | no ne ↦ W.done u (omega arith)
    ];
    start-rest = λ u c. W.start-rest u (omega arith);
    len-rest = λ u c. W.len-rest u (omega arith);
  }

  pub trimming-small : {start len : ℕ} → start ≡ get_or vs (2 * v) 0 → len ≡ get_or vs (2 * v + 1) 0 → (1 ≤ len) × (start + len < 4294967296)
  trimming-small a b = (
    omega (arith, T.whole v h, W.len-rest v (omega arith)),
    omega (arith, T.small v h, W.start-rest v (omega arith), W.len-rest v (omega arith)),
  )

  pub trimming-last : {vs' : List ℕ} {start len : ℕ} → get_or heads (2 * v + 1) 0 < m → start ≡ get_or vs (2 * v) 0 → len ≡ get_or vs (2 * v + 1) 0
      → vs' ≡ put_vertex vs v (start + (len - 1)) 1 → Trimming m n es vs₀ vs' (v + 1)
  trimming-last {vs'} b qs ql e = record {
    high = omega arith;
    size = ap length e ∙ length-put-vertex vs v _ 1 ∙ W.size;
    done = λ u c. elim (ℕ_discrete u v) [
      | yes q ↦ rw q (record {
        start = ap (λ (l : List ℕ). get_or l (2 * v) 0) e ∙ put-start vs v _ 1 room
            ∙ (λ i. (qs ∙ W.start-rest v (omega arith)) i + ((ql ∙ W.len-rest v (omega arith)) i - 1)) ∙ rw (some_in b);
        len = ap (λ (l : List ℕ). get_or l (2 * v + 1) 0) e ∙ put-len vs v _ 1 room ∙ rw (some_in b);
      })
      | no ne ↦ (let P = W.done u (omega arith) in record {
        start = other (2 * u) (λ z. ne (omega arith)) (λ z. omega arith) ∙ P.start;
        len = other (2 * u + 1) (λ z. omega arith) (λ z. ne (omega arith)) ∙ P.len;
      })
    ];
    start-rest = λ u c. other (2 * u) (λ z. omega arith) (λ z. omega arith) ∙ W.start-rest u (omega arith);
    len-rest = λ u c. other (2 * u + 1) (λ z. omega arith) (λ z. omega arith) ∙ W.len-rest u (omega arith);
  }
    where
      room : 2 * v + 2 ≤ length vs
      room = omega (arith, T.vs-room, W.size)

      other : (x : ℕ) → (x ≡ 2 * v → ⊥) → (x ≡ 2 * v + 1 → ⊥) → get_or vs' x 0 ≡ get_or vs x 0
      other x a c = ap (λ (l : List ℕ). get_or l x 0) e ∙ put_rest vs v _ 1 x a c

-- ---- the sequences then

placed-seq : (b : Bool) (vs₀ vs p : List ℕ) (u : ℕ) → get_or vs₀ (2 * u) 0 + get_or vs₀ (2 * u + 1) 0 ≤ length p → 1 ≤ get_or vs₀ (2 * u + 1) 0
    → get_or vs (2 * u) 0 ≡ cond b (get_or vs₀ (2 * u) 0) (get_or vs₀ (2 * u) 0 + (get_or vs₀ (2 * u + 1) 0 - 1)) → get_or vs (2 * u + 1) 0
    ≡ cond b (get_or vs₀ (2 * u + 1) 0) 1
    → seq_in vs p u ≡ cond b (seq_in vs₀ p u) (drop (length (seq_in vs₀ p u) - 1) (seq_in vs₀ p u))
placed-seq true vs₀ vs p u w o a b = λ i. part p (a i) (b i)
placed-seq false vs₀ vs p u w o a b = (λ i. part p (a i) (b i)) ∙ last-part p (get_or vs₀ (2 * u) 0) (get_or vs₀ (2 * u + 1) 0) 1 w o

placed-within : (b : Bool) (s l s' l' used : ℕ) → s + l ≤ used → 1 ≤ l → s' ≡ cond b s (s + (l - 1)) → l' ≡ cond b l 1 → s' + l' ≤ used
placed-within true s l s' l' used w o a b = omega arith
placed-within false s l s' l' used w o a b = omega arith

placed-shorter : (b : Bool) (l l' : ℕ) → 1 ≤ l → l' ≡ cond b l 1 → l' ≤ l
placed-shorter true l l' o q = omega arith
placed-shorter false l l' o q = omega arith

pub trimming-end : {m n : ℕ} {es vs₀ vs : List ℕ} {v : ℕ} → Trimmable n vs₀ → Trimming m n es vs₀ vs v → n ≤ v → Trimmed m n es vs₀ vs
trimming-end {m} {n} {es} {vs₀} {vs} {v} T W h = record {
  is = λ k p w. tab-ext n (seq_in vs p) (additional_sequence (graph_in k n m es vs₀ p)) (λ u b. let P = W.done u (omega arith) in
      placed-seq (eqb (length (incident_edges (edge_end 1 es) m u)) 0) vs₀ vs p u (w.at u b) (T.whole u b) P.start P.len ∙ sym (additional k p u b));
  shorter = λ u b. let P = W.done u (omega arith) in placed-shorter
      (eqb (length (incident_edges (edge_end 1 es) m u)) 0) _ _ (T.whole u b) P.len;
  within = λ used w. record {
    at = λ u b. let P = W.done u (omega arith) in placed-within
        (eqb (length (incident_edges (edge_end 1 es) m u)) 0) _ _ _ _ used (w.at u b) (T.whole u b) P.start P.len;
  };
}
  where
    additional : (k : ℕ) (p : List ℕ) (u : ℕ) → u < n → additional_sequence (graph_in k n m es vs₀ p) u
        ≡ cond (eqb (length (incident_edges (edge_end 1 es) m u)) 0) (seq_in vs₀ p u) (drop (length (seq_in vs₀ p u) - 1) (seq_in vs₀ p u))
    additional k p u b = unfold additional_sequence vertex_sequence in
        (λ i. cond (eqb (in-degree-is k n m es vs₀ p u i) 0) (get_or-tab n (seq_in vs₀ p) u [] b i)
        (drop (length (get_or-tab n (seq_in vs₀ p) u [] b i) - 1) (get_or-tab n (seq_in vs₀ p) u [] b i)))
