-- A store of an edge, and the model's `raise` at an index. After these nothing looks into the slice. Assumes nothing.
use mathlib.Core.Path.{◌≡◌, refl, sym, ap, ◌∙◌}
use mathlib.Core.Bool.{true, false, cond, not, ◌&&◌}
use mathlib.Core.List.{List, [], ◌∷◌, ◌++◌}
use mathlib.Core.Logic.{◌≢◌}
use Prim.Native.Nat.{ℕ, zero, ◌+◌, ◌*◌, ◌≤◌, ◌<◌}
use native.Mathlib.Omega.{arith}
use lib.ListN.{length, get_or, set, length-set}
use lib.Seq.{get_or-set_same, get_or-set_other}
use borrow.Author.Tests.{eq-eqb, ne_eqb}
use Rattle.defs.specs.Lists.{tab}
use Rattle.tabs.proofs.Tabs.{tab-snoc, tab-ext, tab-set, length-tab, get_or-tab, first_ix-yes, first_ix-no}
use Rattle.defs.specs.SeqGraph.{Edge, EdgeData, edge_data, new_edge, joined_data, has_ends, add_or_update_edge}
use Rattle.laws.proofs.Walks.{by_test}
use Rattle.laws.proofs.Edges.{raise-yes, raise-no}
use Rattle.store.specs.Store.{is_set, edge, edge_in, edges_in, put_edge, find_edge, carried_at}
use Rattle.edge_data.specs.EdgeData.{carried_data}
use Rattle.edge_data.specs.declared.Carried.{Carried}

abbrev pub absent_edge : Edge
absent_edge = record { from = 0; to = 0; support = 0; is_ref = false; capped = false }

-- the edge joined with what another carries
abbrev pub raised : EdgeData → Edge → Edge
raised d e = new_edge e.from e.to (joined_data (edge_data e) d)

raise-hit : (a b : ℕ) (d : EdgeData) (es : List Edge) → find_edge a b es < length es
    → add_or_update_edge a b d es ≡ set es (find_edge a b es) (raised d (get_or es (find_edge a b es) absent_edge))
raise-hit a b d [] h = absurd (omega arith)
raise-hit a b d (e ∷ es) h = by_test (has_ends a b e)
    (λ t. rw (first_ix-yes (has_ends a b) e es t) (raise-yes a b d e es t))
    (λ t. rw (first_ix-no (has_ends a b) e es t) (raise-no a b d e es t
    ∙ ap (λ (xs : List Edge). e ∷ xs) (raise-hit a b d es (omega (arith, h, first_ix-no (has_ends a b) e es t)))))

raise-miss : (a b : ℕ) (d : EdgeData) (es : List Edge) → length es ≤ find_edge a b es
    → add_or_update_edge a b d es ≡ es ++ (new_edge a b d ∷ [])
unfolding add_or_update_edge
raise-miss a b d [] h = refl
raise-miss a b d (e ∷ es) h = by_test (has_ends a b e)
    (λ t. absurd (omega (arith, h, first_ix-yes (has_ends a b) e es t)))
    (λ t. raise-no a b d e es t ∙ ap (λ (xs : List Edge). e ∷ xs) (raise-miss a b d es (omega (arith, h, first_ix-no (has_ends a b) e es t))))

pub length-put : (es : List ℕ) (i a b s r : ℕ) → length (put_edge es i a b s r) ≡ length es
unfolding put_edge
length-put es i a b s r = simp length-set

pub put_same : (es : List ℕ) (i a b s r : ℕ) → 4 * i + 4 ≤ length es → edge_in (put_edge es i a b s r) i ≡ edge a b s r
unfolding put_edge
put_same es i a b s r h = λ j. edge (p0 j) (p1 j) (p2 j) (p3 j)
  where
    g1 : List ℕ
    g1 = set es (4 * i) a

    g2 : List ℕ
    g2 = set g1 (4 * i + 1) b

    g3 : List ℕ
    g3 = set g2 (4 * i + 2) s

    p0 : get_or (set g3 (4 * i + 3) r) (4 * i) 0 ≡ a
    p0 = get_or-set_other g3 _ (4 * i) _ 0 (λ q. omega arith) ∙ get_or-set_other g2 _ (4 * i) _ 0 (λ q. omega arith)
        ∙ get_or-set_other g1 _ (4 * i) _ 0 (λ q. omega arith) ∙ get_or-set_same es _ _ 0 (omega arith)

    p1 : get_or (set g3 (4 * i + 3) r) (4 * i + 1) 0 ≡ b
    p1 = get_or-set_other g3 _ (4 * i + 1) _ 0 (λ q. omega arith) ∙ get_or-set_other g2 _ (4 * i + 1) _ 0 (λ q. omega arith)
        ∙ get_or-set_same g1 _ _ 0 (simp length-set (omega arith))

    p2 : get_or (set g3 (4 * i + 3) r) (4 * i + 2) 0 ≡ s
    p2 = get_or-set_other g3 _ (4 * i + 2) _ 0 (λ q. omega arith) ∙ get_or-set_same g2 _ _ 0 (simp length-set (omega arith))

    p3 : get_or (set g3 (4 * i + 3) r) (4 * i + 3) 0 ≡ r
    p3 = get_or-set_same g3 _ _ 0 (simp length-set (omega arith))

pub put-at : (es : List ℕ) (i a b s r x : ℕ) → (x ≡ 4 * i → ⊥) → (x ≡ 4 * i + 1 → ⊥) → (x ≡ 4 * i + 2 → ⊥) → (x ≡ 4 * i + 3 → ⊥)
    → get_or (put_edge es i a b s r) x 0 ≡ get_or es x 0
unfolding put_edge
put-at es i a b s r x h k l m = get_or-set_other (set (set (set es (4 * i) a) (4 * i + 1) b) (4 * i + 2) s) _ x _ 0 m
    ∙ get_or-set_other (set (set es (4 * i) a) (4 * i + 1) b) _ x _ 0 l ∙ get_or-set_other (set es (4 * i) a) _ x _ 0 k
    ∙ get_or-set_other es _ x _ 0 h

pub put_other : (es : List ℕ) (i a b s r k : ℕ) → (k ≡ i → ⊥) → edge_in (put_edge es i a b s r) k ≡ edge_in es k
put_other es i a b s r k ne = λ j. edge
    (put-at es i a b s r (4 * k) (λ q. ne (omega arith)) (λ q. omega arith) (λ q. omega arith) (λ q. omega arith) j)
    (put-at es i a b s r (4 * k + 1) (λ q. omega arith) (λ q. ne (omega arith)) (λ q. omega arith) (λ q. omega arith) j)
    (put-at es i a b s r (4 * k + 2) (λ q. omega arith) (λ q. omega arith) (λ q. ne (omega arith)) (λ q. omega arith) j)
    (put-at es i a b s r (4 * k + 3) (λ q. omega arith) (λ q. omega arith) (λ q. omega arith) (λ q. ne (omega arith)) j)

-- an edge stored behind the m that are there, and one stored among them
pub put-push : (m : ℕ) (es : List ℕ) (a b s r : ℕ) → 4 * m + 4 ≤ length es → edges_in (m + 1) (put_edge es m a b s r) ≡ edges_in m es ++ (edge a b s r ∷ [])
put-push m es a b s r h =
    tab-snoc m _ ∙ (λ j. tab-ext m (edge_in (put_edge es m a b s r)) (edge_in es) (λ k c. put_other es m a b s r k (λ q. omega arith)) j
    ++ (put_same es m a b s r h j ∷ []))

pub put-set : (m : ℕ) (es : List ℕ) (i a b s r : ℕ) → i < m → 4 * m ≤ length es → edges_in m (put_edge es i a b s r) ≡ set (edges_in m es) i (edge a b s r)
put-set m es i a b s r c h =
    tab-set m (edge_in es) (edge_in (put_edge es i a b s r)) i absent_edge c (λ k d ne. put_other es i a b s r k ne)
    ∙ ap (set (edges_in m es) i) (put_same es i a b s r (omega arith))

-- a mark, by the number that it is read from
pub set_is : {x : ℕ} → (x ≡ 0 → ⊥) → is_set x ≡ true
set_is {x} ne = ap not (ne_eqb x 0 ne)

pub set-not : {x : ℕ} → x ≡ 0 → is_set x ≡ false
set-not {x} e = ap not (eq-eqb x 0 e)

-- what the code leaves where the edge is there, and where it is not
module _ (m : ℕ) (es es' : List ℕ) (a b : ℕ) (d : Carried) (e : ℕ) (room : 4 * m + 4 ≤ length es) (is : e ≡ find_edge a b (edges_in m es)) where
  pub packed-hit : (fr to : ℕ) (j : Carried) → e < m → fr ≡ get_or es (4 * e) 0 → to ≡ get_or es (4 * e + 1) 0
      → carried_data j ≡ joined_data (carried_data (carried_at es e)) (carried_data d) → es' ≡ put_edge es e fr to j.support j.flag
      → edges_in m es' ≡ add_or_update_edge a b (carried_data d) (edges_in m es)
  unfolding new_edge edge_data
  packed-hit fr to j h hf ht hj put =
      ap (edges_in m) put ∙ put-set m es e fr to j.support j.flag h (omega arith)
      ∙ ap (set (edges_in m es) e) (λ i. new_edge (hf i) (ht i) (hj i))
      ∙ sym (raise-hit a b (carried_data d) (edges_in m es) (omega (arith, length-tab m (edge_in es), is))
      ∙ rw (← is, get_or-tab m (edge_in es) e absent_edge h))

  pub packed-miss : m ≤ e → es' ≡ put_edge es m a b d.support d.flag → edges_in (m + 1) es' ≡ add_or_update_edge a b (carried_data d) (edges_in m es)
  unfolding new_edge
  packed-miss h put = ap (edges_in (m + 1)) put ∙ put-push m es a b d.support d.flag room
      ∙ sym (raise-miss a b (carried_data d) (edges_in m es) (omega (arith, length-tab m (edge_in es), is)))
