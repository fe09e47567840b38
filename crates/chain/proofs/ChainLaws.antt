-- The tests of a chain over the index are the definitions', and the loops that follow one. Assumes nothing.
use mathlib.Core.Path.{◌≡◌, refl, sym, ap, ◌∙◌}
use mathlib.Core.Bool.{Bool, true, false, not, ◌&&◌, ◌||◌, beq}
use mathlib.Core.List.{List, [], ◌∷◌, ◌++◌, map, append_assoc, append-nil}
use Prim.Native.Nat.{ℕ, suc, ◌+◌, ◌*◌, ◌-◌, ◌≤◌, ◌<◌}
use native.Mathlib.Omega.{arith}
use native.Mathlib.Decide.{ℕ_discrete}
use lib.ListN.{length, get_or, set, length-set}
use lib.Seq.{get_or-set_same, get_or-set_other}
use lib.Dec.{eqb, ltb}
use borrow.Author.Tests.{eq-eqb, ne_eqb, eqb-true}
use Rattle.defs.specs.Lists.{head_or}
use Rattle.defs.specs.SeqGraph.{Graph, outgoing_nodes, incoming_nodes, is_reference_node}
use Rattle.defs.specs.Zip.{is_linear_chain_start, chain_goes_on, trace_linear_chain}
use Rattle.tabs.proofs.Tabs.{tab-zero}
use Rattle.store.specs.Store.{graph_in, nums_in}
use Rattle.index.specs.Index.{edge_end, incident_edges, pair_at, Indexed}
use Rattle.index.proofs.IndexLaws.{out-degree-is, in-degree-is, outgoing-is, incoming-is, nums-push, at_none, at_first, pair-first}
use Rattle.refs.specs.Refs.{RefNode}
use Rattle.chain.specs.Chain.{ChainStart, GoesOn, Traced}

-- one edge at v: it is the head
pub one-head : {m n : ℕ} {es heads nexts : List ℕ} (off : ℕ) → off ≤ 1 → Indexed m n es heads nexts → (v : ℕ) → v < n → true
    ≡ eqb (length (incident_edges (edge_end off es) m v)) 1 → pair_at off heads v < m
one-head {m} {n} {es} {heads} {nexts} off b I v h t = Rattle.laws.proofs.ListLaws.by_order m (pair_at off heads v)
    (λ c. absurd (omega (arith, eqb-true (length (incident_edges (edge_end off es) m v)) 1 (sym t), ap length (at_none (I.index off b) h (pair_at off heads v) refl c))))
    (λ c. c)

pub one_out_lem : {m n : ℕ} {es heads nexts : List ℕ} → Indexed m n es heads nexts → (v : ℕ) → v < n → true
    ≡ eqb (length (incident_edges (edge_end 0 es) m v)) 1 → get_or heads (2 * v) 0 < m
one_out_lem {m} {n} {es} {heads} I v h t = omega (arith, one-head 0 (omega arith) I v h t, pair-first heads v)

module _ {m n : ℕ} {es heads nexts : List ℕ} (I : Indexed m n es heads nexts) (v : ℕ) (h : v < n) where
  start_of : (k : ℕ) (vs p : List ℕ) → is_linear_chain_start (graph_in k n m es vs p) v
      ≡ eqb (length (incident_edges (edge_end 0 es) m v)) 1 && (not (eqb (length (incident_edges (edge_end 1 es) m v)) 1)
      || ltb 1 (length (incident_edges (edge_end 0 es) m (head_or 0 (incoming_nodes (graph_in k n m es vs p) v)))))
  unfolding is_linear_chain_start
  start_of k vs p = λ i. eqb (out-degree-is k n m es vs p v i) 1
      && (not (eqb (in-degree-is k n m es vs p v i) 1) || ltb 1
      (out-degree-is k n m es vs p (head_or 0 (incoming_nodes (graph_in k n m es vs p) v)) i))

  pub start-no : false ≡ eqb (length (incident_edges (edge_end 0 es) m v)) 1 → ChainStart m n es v false
  start-no t = record { is = λ k vs p. sym (start_of k vs p ∙ rw (← t)) }

  pub start-yes : true ≡ eqb (length (incident_edges (edge_end 0 es) m v)) 1 → false ≡ eqb (length (incident_edges (edge_end 1 es) m v)) 1 → ChainStart m n es v true
  start-yes t s = record { is = λ k vs p. sym (start_of k vs p ∙ rw (← t, ← s)) }

  head_in : (k : ℕ) (vs p : List ℕ) (u : ℕ) → pair_at 1 heads v < m → u ≡ get_or es (4 * pair_at 1 heads v) 0
      → head_or 0 (incoming_nodes (graph_in k n m es vs p) v) ≡ u
  unfolding head_or
  head_in k vs p u b q = ap (head_or 0) (incoming-is k n m es vs p v
      ∙ ap (map (λ (e : ℕ). get_or es (4 * e) 0)) (at_first (I.index 1 (omega arith)) h (pair_at 1 heads v) refl b)) ∙ sym q

  pub start-by : {r : Bool} (u : ℕ) → true ≡ eqb (length (incident_edges (edge_end 0 es) m v)) 1 → true ≡ eqb (length (incident_edges (edge_end 1 es) m v)) 1
      → u ≡ get_or es (4 * pair_at 1 heads v) 0
      → r ≡ ltb 1 (length (incident_edges (edge_end 0 es) m u)) → ChainStart m n es v r
  start-by u t s q e = record { is = λ k vs p. e ∙ sym (start_of k vs p ∙ rw (← t, ← s, head_in k vs p u (one-head 1 (omega arith) I v h s) q)) }

module _ (m n : ℕ) (es : List ℕ) (last next : ℕ) where
  goes_of : (k : ℕ) (vs p : List ℕ) → chain_goes_on (graph_in k n m es vs p) last next
      ≡ eqb (length (incident_edges (edge_end 0 es) m last)) 1 && (eqb (length (incident_edges (edge_end 1 es) m next)) 1
      && (not (eqb last next) && beq (is_reference_node (graph_in k n m es vs p) last)
      (is_reference_node (graph_in k n m es vs p) next)))
  unfolding chain_goes_on
  goes_of k vs p = λ i. eqb (out-degree-is k n m es vs p last i) 1
      && (eqb (in-degree-is k n m es vs p next i) 1 && (not (eqb last next)
      && beq (is_reference_node (graph_in k n m es vs p) last) (is_reference_node (graph_in k n m es vs p) next)))

  pub goes-no₁ : false ≡ eqb (length (incident_edges (edge_end 0 es) m last)) 1 → GoesOn m n es last next false
  goes-no₁ t = record { is = λ k vs p. sym (goes_of k vs p ∙ rw (← t)) }

  pub goes-no₂ : true ≡ eqb (length (incident_edges (edge_end 0 es) m last)) 1 → false ≡ eqb (length (incident_edges (edge_end 1 es) m next)) 1 → GoesOn m n es last next false
  goes-no₂ t s = record { is = λ k vs p. sym (goes_of k vs p ∙ rw (← t, ← s)) }

  pub goes-no₃ : true ≡ eqb (length (incident_edges (edge_end 0 es) m last)) 1 → true ≡ eqb (length (incident_edges (edge_end 1 es) m next)) 1 → last ≡ next
      → GoesOn m n es last next false
  goes-no₃ t s q = record { is = λ k vs p. sym (goes_of k vs p ∙ rw (← t, ← s, eq-eqb last next q)) }

  pub goes_by : {a b r : Bool} → true ≡ eqb (length (incident_edges (edge_end 0 es) m last)) 1 → true ≡ eqb (length (incident_edges (edge_end 1 es) m next)) 1 → (last ≡ next → ⊥)
      → RefNode m n es last a → RefNode m n es next b → r ≡ beq a b → GoesOn m n es last next r
  goes_by t s o A B q = record {
    is = λ k vs p. q ∙ (λ i. beq (A.is k vs p i) (B.is k vs p i))
        ∙ sym (goes_of k vs p ∙ rw (← t, ← s, ne_eqb last next o));
  }

-- ---- following a chain

trace-stop : (fuel : ℕ) (g : Graph) (last : ℕ) → chain_goes_on g last (head_or 0 (outgoing_nodes g last)) ≡ false → trace_linear_chain (suc fuel) g last ≡ []
unfolding trace_linear_chain
trace-stop fuel g last t = rw (t, trace_linear_chain)

trace-on : (fuel : ℕ) (g : Graph) (last next : ℕ) → next ≡ head_or 0 (outgoing_nodes g last) → chain_goes_on g last next ≡ true
    → trace_linear_chain (suc fuel) g last ≡ next ∷ trace_linear_chain fuel g next
unfolding trace_linear_chain
trace-on fuel g last next q t = let s : chain_goes_on g last (head_or 0 (outgoing_nodes g last)) ≡ true = rw q at t in rw (s, trace_linear_chain) (rw (← q))

trace-out : (g : Graph) (last : ℕ) → trace_linear_chain 0 g last ≡ []
unfolding trace_linear_chain
trace-out g last = refl

pub record Tracing (m n : ℕ) (es : List ℕ) (start : ℕ) (out₀ out : List ℕ) (last c : ℕ) : Type 0 where
  pub high : c ≤ n
  pub last-below : last < n
  pub len : length out ≡ length out₀
  pub below : (j : ℕ) → j < c → get_or out j 0 < n
  pub is : (k : ℕ) (vs p : List ℕ) → trace_linear_chain n (graph_in k n m es vs p) start ≡ nums_in c out ++ trace_linear_chain (n - c) (graph_in k n m es vs p) last

module _ {m n : ℕ} {es heads nexts : List ℕ} (I : Indexed m n es heads nexts) {start : ℕ} {out₀ : List ℕ} where
  pub tracing-start : start < n → Tracing m n es start out₀ out₀ start 0
  tracing-start h = record {
    high = omega arith;
    last-below = h;
    len = refl;
    below = λ j b. absurd (omega arith);
    is = λ k vs p.
        rw (tab-zero (λ (i : ℕ). get_or out₀ i 0)) (ap (λ (x : ℕ). trace_linear_chain x (graph_in k n m es vs p) start) (omega arith));
  }

  module _ {out : List ℕ} {last c : ℕ} (T : Tracing m n es start out₀ out last c) (b : c < n) where
    fuel-is : n - c ≡ suc (n - (c + 1))
    fuel-is = omega arith

    head-out : (k : ℕ) (vs p : List ℕ) (next : ℕ) → pair_at 0 heads last < m → next ≡ get_or es (4 * pair_at 0 heads last + 1) 0 → next
        ≡ head_or 0 (outgoing_nodes (graph_in k n m es vs p) last)
    unfolding head_or
    head-out k vs p next d q = q ∙ sym (ap (head_or 0) (outgoing-is k n m es vs p last
        ∙ ap (map (edge_end 1 es)) (at_first (I.index 0 (omega arith)) T.last-below (pair_at 0 heads last) refl d)))

    place : (e : ℕ) → e ≡ get_or heads (2 * last) 0 → get_or es (4 * e + 1) 0 ≡ get_or es (4 * pair_at 0 heads last + 1) 0
    place e z = ap (λ (x : ℕ). get_or es (4 * x + 1) 0) (z ∙ pair-first heads last)

    ended : ((k : ℕ) (vs p : List ℕ) → chain_goes_on (graph_in k n m es vs p) last (head_or 0 (outgoing_nodes (graph_in k n m es vs p) last))
        ≡ false) → Traced m n es start c out
    ended f = record {
      most = T.high;
      below = T.below;
      is = λ k vs p. sym (T.is k vs p ∙ ap (λ (l : List ℕ). nums_in c out
          ++ l) (ap (λ (x : ℕ). trace_linear_chain x (graph_in k n m es vs p) last) fuel-is
          ∙ trace-stop (n - (c + 1)) (graph_in k n m es vs p) last (f k vs p)) ∙ append-nil _);
    }

    pub tracing-none : false ≡ eqb (length (incident_edges (edge_end 0 es) m last)) 1 → Traced m n es start c out
    tracing-none t = ended (λ k vs p. sym ((goes-no₁ m n es last (head_or 0 (outgoing_nodes (graph_in k n m es vs p) last)) t).is k vs p))

    pub tracing-stop : {next e : ℕ} {r : Bool} → e < m → e ≡ get_or heads (2 * last) 0 → next ≡ get_or es (4 * e + 1) 0
        → GoesOn m n es last next r → r ≡ false → Traced m n es start c out
    tracing-stop {next} {e} d z q G t = ended (λ k vs p. rw (← head-out k vs p next (omega (arith, z, pair-first heads last)) (q
        ∙ place e z)) (sym (G.is k vs p) ∙ t))

    pub tracing-more : {next e : ℕ} {r : Bool} → n ≤ length out₀ → e < m → e ≡ get_or heads (2 * last) 0 → next ≡ get_or es (4 * e + 1) 0
        → GoesOn m n es last next r → r ≡ true → Tracing m n es start out₀ (set out c next) next (c + 1)
    tracing-more {next} {e} room d z q G t = record {
      high = omega arith;
      last-below = omega (arith, (I.ends.at e d).1);
      len = length-set out _ _ ∙ T.len;
      below = λ j x. elim (ℕ_discrete j c) [
        | yes y ↦ rw (y, get_or-set_same out c next 0 (omega (arith, T.len))) (omega (arith, (I.ends.at e d).1))
        | no ne ↦ rw (get_or-set_other out c j next 0 ne) (T.below j (omega arith))
      ];
      is = λ k vs p. T.is k vs p ∙ ap (λ (l : List ℕ). nums_in c out
          ++ l) (ap (λ (x : ℕ). trace_linear_chain x (graph_in k n m es vs p) last) fuel-is
          ∙ trace-on (n - (c + 1)) (graph_in k n m es vs p) last next (head-out k vs p next (omega (arith, z, pair-first heads last)) (q
          ∙ place e z)) (sym (G.is k vs p) ∙ t))
          ∙ sym (append_assoc (nums_in c out) (next ∷ []) _) ∙ ap (λ (l : List ℕ). l ++ trace_linear_chain
          (n - (c + 1)) (graph_in k n m es vs p) next) (sym (nums-push c next out (omega (arith, T.len))));
    }

  pub tracing-end : {out : List ℕ} {last c : ℕ} → Tracing m n es start out₀ out last c → n ≤ c → Traced m n es start c out
  tracing-end {out} {last} {c} T b = record {
    most = T.high;
    below = T.below;
    is = λ k vs p. sym (T.is k vs p ∙ ap (λ (l : List ℕ). nums_in c out
        ++ l) (ap (λ (x : ℕ). trace_linear_chain x (graph_in k n m es vs p) last) (omega (arith, T.high))
        ∙ trace-out (graph_in k n m es vs p) last) ∙ append-nil _);
  }
