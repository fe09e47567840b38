-- The plans of the definition, from the slices. Assumes nothing.
use mathlib.Core.Path.{◌≡◌, refl, sym, ap, ◌∙◌}
use mathlib.Core.Bool.{Bool, ◌&&◌, ◌||◌}
use mathlib.Core.List.{List, [], ◌∷◌, map}
use Prim.Native.Nat.{ℕ, suc, ◌+◌, ◌-◌, ◌≤◌, ◌<◌}
use native.Mathlib.Omega.{arith}
use lib.ListN.{length, get_or, take, drop}
use lib.Dec.{eqb, ltb}
use borrow.Author.Tests.{lt-ltb, le-ltb, ltb-true, ltb-false}
use Rattle.defs.specs.Lists.{keep_if, any_of}
use Rattle.defs.specs.SeqGraph.{Edge, Graph, vertex_sequence, edges_from, edges_into, is_reference_node, EdgeData, edge_data, new_edge, joined_data}
use Rattle.defs.specs.Rewrites.{MidPlan, mid_plan, process_edge, has_remaining, edges_to_middles, edges_from_middles, prefix_to_suffix_from}
use Rattle.laws.proofs.Flags.{plain-says-ref, plain-not-capped}
use Rattle.laws.proofs.Walks.{by_test}
use Rattle.laws.proofs.ListLaws.{keep_if-yes, keep_if-no, any-yes, any-no}
use Rattle.tabs.proofs.Tabs.{get_or-tab}
use Rattle.store.specs.Store.{edge_in, seq_in, seqs_in, graph_in}
use Rattle.store.proofs.VertexLaws.{part-long}
use Rattle.index.specs.Index.{pair_at}
use Rattle.index.proofs.IndexLaws.{from_is, into-is}
use Rattle.shared.proofs.PartLaws.{take_part, drop-part}
use Rattle.split_and_update.specs.Pushed.{start_of, len_of, leaves, rest_of}
use Rattle.split_and_update.specs.Ends.{end_data, plan_of, update_edges, is_cons}
use Rattle.split_and_update.specs.Split.{Middle}
use Rattle.split_and_update.specs.declared.Places.{Places}
use Rattle.split_and_update.proofs.VertLaws.{filled_is}

-- ---- a vertex without edges out is a reference node where an edge into it is a reference edge

ref-into : (v : ℕ) (es : List Edge) → keep_if (λ (e : Edge). eqb e.from v) es ≡ []
    → any_of (λ (e : Edge). e.is_ref && (eqb e.from v || eqb e.to v)) es
    ≡ any_of (λ (e : Edge). e.is_ref) (keep_if (λ (e : Edge). eqb e.to v) es)
unfolding any_of keep_if
ref-into v [] h = refl
ref-into v (e ∷ es) h = by_test (eqb e.from v)
    (λ t. absurd (omega (arith, ap length (sym (keep_if-yes (λ (d : Edge). eqb d.from v) e es t) ∙ h))))
    (λ t. let ih = ref-into v es (sym (keep_if-no (λ (d : Edge). eqb d.from v) e es t) ∙ h) in
    by_test (eqb e.to v)
    (λ u. by_test e.is_ref
    (λ r. any-yes (λ (d : Edge). d.is_ref && (eqb d.from v || eqb d.to v)) e es (rw (t, u, r))
    ∙ sym (ap (any_of (λ (d : Edge). d.is_ref)) (keep_if-yes (λ (d : Edge). eqb d.to v) e es u)
    ∙ any-yes (λ (d : Edge). d.is_ref) e (keep_if (λ (d : Edge). eqb d.to v) es) r))
    (λ r. any-no (λ (d : Edge). d.is_ref && (eqb d.from v || eqb d.to v)) e es (rw (t, u, r)) ∙ ih
    ∙ sym (ap (any_of (λ (d : Edge). d.is_ref)) (keep_if-yes (λ (d : Edge). eqb d.to v) e es u)
    ∙ any-no (λ (d : Edge). d.is_ref) e (keep_if (λ (d : Edge). eqb d.to v) es) r)))
    (λ u. any-no (λ (d : Edge). d.is_ref && (eqb d.from v || eqb d.to v)) e es
    (by_test e.is_ref (λ r. rw (t, u, r)) (λ r. rw (t, u, r))) ∙ ih
    ∙ sym (ap (any_of (λ (d : Edge). d.is_ref)) (keep_if-no (λ (d : Edge). eqb d.to v) e es u))))

any-one : (e : Edge) → any_of (λ (d : Edge). d.is_ref) (e ∷ []) ≡ e.is_ref
unfolding any_of
any-one e = by_test e.is_ref (λ t. rw t) (λ t. rw t)

module _ (k n m : ℕ) (es vs p heads : List ℕ) (v : ℕ) (M : Middle m es heads v) where
  abbrev g : Graph
  g = graph_in k n m es vs p

  into_one : edges_into g v ≡ edge_in es (pair_at 1 heads v) ∷ []
  into_one = into-is k n m es vs p v ∙ ap (map (edge_in es)) M.into

  to_is : process_edge g v (edges_into g v) ≡ end_data m es heads 1 v
  unfolding process_edge edge_data
  to_is = ap (process_edge g v) into_one ∙ rw (lt-ltb (pair_at 1 heads v) m M.first)

  reference : edges_from g v ≡ [] → is_reference_node g v ≡ (edge_in es (pair_at 1 heads v)).is_ref
  unfolding is_reference_node edges_from edges_into
  reference h = ref-into v g.edges h ∙ ap (any_of (λ (d : Edge). d.is_ref)) (unfold edges_into in into_one) ∙ any-one (edge_in es (pair_at 1 heads v))

  from_end : process_edge g v (edges_from g v) ≡ end_data m es heads 0 v
  unfolding process_edge edge_data
  from_end = by_test (ltb (pair_at 0 heads v) m)
      (λ t. let o = M.out (ltb-true _ _ t) in ap (process_edge g v) (from_is k n m es vs p v ∙ ap (map (edge_in es)) o.1) ∙ rw t)
      (λ t. let z : edges_from g v ≡ [] = from_is k n m es vs p v ∙ ap (map (edge_in es)) (M.end (ltb-false _ _ t)) in
      ap (process_edge g v) z ∙ rw t (λ i. record {
        support = 0;
        is_ref = (reference z ∙ sym (plain-says-ref (edge_in es (pair_at 1 heads v)).is_ref)) i;
        capped = sym (plain-not-capped (edge_in es (pair_at 1 heads v)).is_ref) i;
      }))

  module _ (x y : ℕ) (b : v < n) (inside : start_of vs v + len_of vs v ≤ length p) (long : x + y ≤ len_of vs v) where
    rest-is : drop x (take (length (vertex_sequence g v) - y) (vertex_sequence g v)) ≡ rest_of vs p x y v
    unfolding vertex_sequence
    rest-is =
        let q : get_or (seqs_in n vs p) v [] ≡ seq_in vs p v = get_or-tab n (seq_in vs p) v [] b in
        let l : length (seq_in vs p v) ≡ len_of vs v = part-long p (start_of vs v) (len_of vs v) inside in
        ap (λ (s : List ℕ). drop x (take (length s - y) s)) q
        ∙ ap (λ (z : ℕ). drop x (take (z - y) (seq_in vs p v))) l
        ∙ ap (drop x) (take_part p (start_of vs v) (len_of vs v) (len_of vs v - y) (omega arith) inside)
        ∙ drop-part p (start_of vs v) (len_of vs v - y) x (omega arith) (omega arith)

    pub plan-is : mid_plan g x y v ≡ plan_of m es heads (rest_of vs p x y v) v
    unfolding mid_plan
    plan-is = λ i. record { remaining = rest-is i; to_mid = to_is i; from_mid = from_end i }

    pub remains : has_remaining (plan_of m es heads (rest_of vs p x y v) v) ≡ leaves vs (x + y) v
    unfolding has_remaining
    remains = filled_is p (start_of vs v + x) (len_of vs v - y - x) (omega arith) ∙ same
      where
        same : ltb 0 (len_of vs v - y - x) ≡ ltb (x + y) (len_of vs v)
        same = by_test (ltb (x + y) (len_of vs v))
            (λ t. lt-ltb 0 (len_of vs v - y - x) (omega (arith, ltb-true (x + y) (len_of vs v) t)) ∙ sym t)
            (λ t. le-ltb 0 (len_of vs v - y - x) (omega (arith, ltb-false (x + y) (len_of vs v) t)) ∙ sym t)

-- ---- new edges do not depend on what remains

module _ (m : ℕ) (es heads : List ℕ) (rest : ℕ → List ℕ) where
  abbrev full : ℕ → MidPlan
  full v = plan_of m es heads (rest v) v

  abbrev bare : ℕ → MidPlan
  bare v = plan_of m es heads [] v

  to-bare : (u j : ℕ) (l : List ℕ) → edges_to_middles u j (map full l) ≡ edges_to_middles u j (map bare l)
  unfolding edges_to_middles
  to-bare u j [] = refl
  to-bare u j (v ∷ l) = ap (λ (r : List Edge). new_edge u j (end_data m es heads 1 v) ∷ r) (to-bare u (suc j) l)

  from-bare : (u j : ℕ) (l : List ℕ) → edges_from_middles j u (map full l) ≡ edges_from_middles j u (map bare l)
  unfolding edges_from_middles
  from-bare u j [] = refl
  from-bare u j (v ∷ l) = ap (λ (r : List Edge). new_edge j u (end_data m es heads 0 v) ∷ r) (from-bare u (suc j) l)

  ref-bare : (p : EdgeData → EdgeData → Bool) (l : List ℕ) → any_of (λ (q : MidPlan). p q.to_mid q.from_mid) (map full l)
      ≡ any_of (λ (q : MidPlan). p q.to_mid q.from_mid) (map bare l)
  unfolding any_of
  ref-bare p [] = refl
  ref-bare p (v ∷ l) = by_test (p (end_data m es heads 1 v) (end_data m es heads 0 v)) (λ t. rw (t, any_of)) (λ t. rw (t, any_of) (ref-bare p l))

  pub gather-bare : (a : EdgeData) (l : List ℕ) → prefix_to_suffix_from a (map full l) ≡ prefix_to_suffix_from a (map bare l)
  unfolding prefix_to_suffix_from
  gather-bare a [] = refl
  gather-bare a (v ∷ l) = gather-bare (joined_data a (joined_data (end_data m es heads 1 v) (end_data m es heads 0 v))) l

  pub cons-bare : (l : List ℕ) (a b : ℕ) → b ≡ a + length l → is_cons (map full l) ≡ ltb a b
  unfolding is_cons
  cons-bare [] a b h = sym (le-ltb a b (omega arith))
  cons-bare (v ∷ l) a b h = sym (lt-ltb a b (omega arith))

  pub edges-bare : (w : Places) (l : List ℕ) (d : EdgeData) → update_edges w (map full l) d ≡ update_edges w (map bare l) d
  unfolding update_edges
  edges-bare w l d = rw (ref-bare (λ t f. t.is_ref) l, ref-bare (λ t f. f.is_ref) l, to-bare, from-bare) refl
