-- Adding or joining an edge: where edges stand then, and what stays. Assumes nothing.
use mathlib.Core.Path.{◌≡◌, refl, sym, ap, ◌∙◌}
use mathlib.Core.Bool.{Bool, true, false}
use mathlib.Core.List.{List, [], ◌∷◌, Memᴰ}
use Prim.Native.Nat.{ℕ, zero, suc, ◌≤◌, ◌<◌}
use native.Mathlib.Omega.{arith}
use lib.ListN.{length, get_or}
use Rattle.defs.specs.SeqGraph.{Edge, EdgeData, edge_data, new_edge, has_ends, add_or_update_edge, add_or_update_edges}
use Rattle.laws.proofs.Walks.{by_test}
use Rattle.laws.proofs.Edges.{raise-yes, raise-no, joins-ends, of-raise_all}
use Rattle.laws.proofs.Counts.{ends_join}
use Rattle.tabs.specs.First.{first_ix}
use Rattle.tabs.proofs.Tabs.{first_ix-yes, first_ix-no}
use Rattle.store.specs.Store.{find_edge}
use Rattle.store.proofs.EdgeLaws.{raised}

pub first-most : {A : Type 0} (p : A → Bool) (xs : List A) → first_ix p xs ≤ length xs
unfolding first_ix
first-most p [] = omega arith
first-most p (x ∷ xs) = by_test (p x) (λ t. omega (arith, first_ix-yes p x xs t)) (λ t. omega (arith, first_ix-no p x xs t, first-most p xs))

-- none of them passes
pub first-missing : {A : Type 0} (p : A → Bool) (d : A) (xs : List A) → ((j : ℕ) → j < length xs → p (get_or xs j d) ≡ false) → first_ix p xs ≡ length xs
unfolding first_ix
first-missing p d [] h = refl
first-missing p d (x ∷ xs) h = first_ix-no p x xs (h 0 (omega arith)) ∙ ap suc (first-missing p d xs (λ j b. h (suc j) (omega arith)))

-- the ends alone decide
ends_same : (a b : ℕ) (e : Edge) (f : Edge) → f.from ≡ e.from → f.to ≡ e.to → has_ends a b f ≡ has_ends a b e
unfolding has_ends
ends_same a b e f p q = rw (p, q)

module _ (a b : ℕ) (w : EdgeData) where
  -- the edge from a to b stands where it stood, or at the end
  pub find-raised : (es : List Edge) → find_edge a b (add_or_update_edge a b w es) ≡ find_edge a b es
  unfolding add_or_update_edge new_edge
  find-raised [] = first_ix-yes (has_ends a b) _ [] (ends_join a b _ refl refl) ∙ unfold first_ix in refl
  find-raised (e ∷ es) = by_test (has_ends a b e)
      (λ t. rw (raise-yes a b w e es t) (first_ix-yes (has_ends a b) _ es (ends_same a b e _ refl refl ∙ t) ∙ sym (first_ix-yes (has_ends a b) e es t)))
      (λ t. rw (raise-no a b w e es t) (first_ix-no (has_ends a b) e _ t ∙ ap suc (find-raised es) ∙ sym (first_ix-no (has_ends a b) e es t)))

  pub find-added : (es : List Edge) → find_edge a b (add_or_update_edge a b w es) < length (add_or_update_edge a b w es)
  unfolding add_or_update_edge new_edge
  find-added [] = omega (arith, first_ix-yes (has_ends a b) (new_edge a b w) [] (ends_join a b _ refl refl))
  find-added (e ∷ es) = by_test (has_ends a b e)
      (λ t. rw (raise-yes a b w e es t) (omega (arith, first_ix-yes (has_ends a b) _ es (ends_same a b e (raised w e) refl refl ∙ t))))
      (λ t. rw (raise-no a b w e es t) (omega (arith, first_ix-no (has_ends a b) e (add_or_update_edge a b w es) t, find-added es)))

  -- another edge that is there stands where it stood
  pub find-other : (c d : ℕ) (es : List Edge) → find_edge c d es < length es → find_edge c d (add_or_update_edge a b w es) ≡ find_edge c d es
  unfolding new_edge
  find-other c d [] h = absurd (omega arith)
  find-other c d (e ∷ es) h = by_test (has_ends a b e)
      (λ t. rw (raise-yes a b w e es t) (head t))
      (λ t. rw (raise-no a b w e es t) (tail (find-other c d es)))
    where
      head : has_ends a b e ≡ true → first_ix (has_ends c d) (raised w e ∷ es) ≡ find_edge c d (e ∷ es)
      head t = by_test (has_ends c d e)
          (λ u. first_ix-yes (has_ends c d) _ es (ends_same c d e _ refl refl ∙ u) ∙ sym (first_ix-yes (has_ends c d) e es u))
          (λ u. first_ix-no (has_ends c d) _ es (ends_same c d e _ refl refl ∙ u) ∙ sym (first_ix-no (has_ends c d) e es u))

      tail : (find_edge c d es < length es → find_edge c d (add_or_update_edge a b w es) ≡ find_edge c d es)
          → first_ix (has_ends c d) (e ∷ add_or_update_edge a b w es) ≡ find_edge c d (e ∷ es)
      tail ih = by_test (has_ends c d e)
          (λ u. first_ix-yes (has_ends c d) e _ u ∙ sym (first_ix-yes (has_ends c d) e es u))
          (λ u. first_ix-no (has_ends c d) e _ u ∙ ap suc (ih (omega (arith, h, first_ix-no (has_ends c d) e es u))) ∙ sym (first_ix-no (has_ends c d) e es u))

  -- another edge that was not there is not there
  pub find-missing : (c d : ℕ) → ((c ≡ a) → (d ≡ b) → ⊥) → (es : List Edge) → length es ≤ find_edge c d es
      → find_edge c d (add_or_update_edge a b w es) ≡ length (add_or_update_edge a b w es)
  unfolding add_or_update_edge new_edge
  find-missing c d ne [] h = first_ix-no (has_ends c d) _ [] (by_test (has_ends c d (new_edge a b w))
      (λ t. absurd (let z = joins-ends c d _ t in ne (sym z.0) (sym z.1))) (λ t. t)) ∙ unfold first_ix in refl
  find-missing c d ne (e ∷ es) h = by_test (has_ends c d e)
      (λ u. absurd (omega (arith, h, first_ix-yes (has_ends c d) e es u)))
      (λ u. by_test (has_ends a b e)
      (λ t. rw (raise-yes a b w e es t) (first_ix-no (has_ends c d) _ es (ends_same c d e _ refl refl ∙ u) ∙ ap suc (all u)))
      (λ t. rw (raise-no a b w e es t) (first_ix-no (has_ends c d) e _ u ∙ ap suc (find-missing c d ne es (omega (arith, h, first_ix-no (has_ends c d) e es u))))))
    where
      all : has_ends c d e ≡ false → find_edge c d es ≡ length es
      all u = omega (arith, h, first_ix-no (has_ends c d) e es u, first-most (has_ends c d) es)

  -- an edge with other ends stays
  pub raise-old : (x : Edge) (es : List Edge) (j : ℕ) → j < length es → has_ends a b (get_or es j x) ≡ false → get_or (add_or_update_edge a b w es) j x ≡ get_or es j x
  raise-old x [] j h o = absurd (omega arith)
  raise-old x (e ∷ es) zero h o = rw (raise-no a b w e es o) refl
  raise-old x (e ∷ es) (suc j) h o = by_test (has_ends a b e)
      (λ t. rw (raise-yes a b w e es t) refl)
      (λ t. rw (raise-no a b w e es t) (raise-old x es j (omega arith) o))

  pub raise-longer : (es : List Edge) → length es ≤ length (add_or_update_edge a b w es)
  unfolding add_or_update_edge new_edge
  raise-longer [] = omega arith
  raise-longer (e ∷ es) = by_test (has_ends a b e)
      (λ t. rw (raise-yes a b w e es t) (omega arith))
      (λ t. rw (raise-no a b w e es t) (omega (arith, raise-longer es)))

pub raise_all-longer : (ns es : List Edge) → length es ≤ length (add_or_update_edges ns es)
unfolding add_or_update_edges
raise_all-longer [] es = omega arith
raise_all-longer (n ∷ ns) es = omega (
  arith,
  raise-longer n.from n.to (edge_data n) es,
  raise_all-longer ns (add_or_update_edge n.from n.to (edge_data n) es),
)

pub raise_all-cons : (n : Edge) (ns es : List Edge) → add_or_update_edges (n ∷ ns) es ≡ add_or_update_edges ns (add_or_update_edges (n ∷ []) es)
unfolding add_or_update_edges
raise_all-cons n ns es = refl

-- what holds of the ends of the old edges and of the new ones holds of all
pub raise_all-ends : (P : ℕ → ℕ → Type 0) (ns es : List Edge) → ((e : Edge) → Memᴰ e es → P e.from e.to)
    → ((e : Edge) → Memᴰ e ns → P e.from e.to)
    → (e : Edge) → Memᴰ e (add_or_update_edges ns es) → P e.from e.to
raise_all-ends P ns es o k e m = of-raise_all ns es e.from e.to (e, m, refl, refl)
    (λ l. rw (l.2, l.3) at (o l.0 l.1))
    (λ l. rw (l.2, l.3) at (k l.0 l.1))
