-- A graph has a rank that rises along each edge, or a closed walk, and not both.
-- Assumes nothing.
use Prim.Native.Nat.{ℕ, zero, suc, ◌+◌, ◌≤◌, ◌<◌}
use native.Mathlib.Omega.{arith}
use mathlib.Core.Path.{◌≡◌, refl, sym, ap, ◌∙◌}
use mathlib.Core.Logic.{◌⊎◌, inl, inr, ⊎_elim}
use mathlib.Core.Bool.{Bool, true, false, ◌&&◌}
use mathlib.Core.List.Memᴰ
use mathlib.Core.List.{List, [], ◌∷◌, Memᴰ}
use lib.Dec.{eqb, ltb}
use lib.ListN.{length, get_or}
use borrow.Author.Tests.{eqb-true, eqb-false, eq-eqb, ltb-true, lt-ltb}
use Rattle.defs.specs.Lists.{any_of, rank, keep_at, elem_of, up_from, bit}
use Rattle.defs.specs.SeqGraph.{Edge, Graph, node_count, keeps}
use Rattle.defs.specs.Strings.{HasEdge}
use Rattle.laws.proofs.Walks.{by_test}
use Rattle.laws.proofs.ListLaws.{clash, and_split, and-true, rank-yes, rank-no}
use Rattle.laws.proofs.Nets.{Ranks, Bounded, length-up_from}
use Rattle.laws.proofs.Edges.{elem_of-true}
use Rattle.laws.proofs.Counts.{Distinct, total_kept, total-one}

-- a walk of one edge or more
pub data Walk (g : Graph) : ℕ → ℕ → Type 0 where
  one : {u v : ℕ} → HasEdge g u v → Walk g u v
  more : {u v w : ℕ} → HasEdge g u v → Walk g v w → Walk g u w

abbrev pub Closed : Graph → Type 0
Closed g = (v : ℕ) × Walk g v v

pub distinct-length : (n : ℕ) (l : List ℕ) → Distinct l → ((v : ℕ) → Memᴰ v l → v < n) → length l ≤ n
distinct-length n l d h =
    omega (arith, total_kept (λ _. 1) 0 (up_from 0 n) l d (λ v m. rw (length-up_from 0 n) (h v m)), total-one l, total-one (up_from 0 n), length-up_from 0 n)

pub any_of-true : {A : Type 0} (p : A → Bool) (l : List A) → any_of p l ≡ true → (x : A) × Memᴰ x l × (p x ≡ true)
unfolding any_of
any_of-true p [] t = clash t refl
any_of-true p (y ∷ ys) t =
    by_test (p y) (λ e. (y, Memᴰ.head refl, e)) (λ e. let r = any_of-true p ys (rw (e, any_of) at t) in (r.0, Memᴰ.tail r.1, r.2))

pub any_of-mem : {A : Type 0} (p : A → Bool) (l : List A) {x : A} → Memᴰ x l → p x ≡ true → any_of p l ≡ true
unfolding any_of
any_of-mem p [] m t = absurd (Memᴰ.not-nil m)
any_of-mem p (y ∷ ys) {x} m t =
    by_test (p y) (λ e. rw (e, any_of)) (λ e. rw (e, any_of) (⊎_elim (λ (i : x ≡ y). clash (ap p (sym i) ∙ t) e) (λ n. any_of-mem p ys n t)
    (Memᴰ.cases_cons m)))

pub mem-up_from : (i n v : ℕ) → i ≤ v → v < i + n → Memᴰ v (up_from i n)
unfolding up_from
mem-up_from i zero v h l = absurd (omega arith)
mem-up_from i (suc n) v h l = by_test (eqb v i) (λ t. Memᴰ.head (eqb-true v i t)) (λ t. let k = eqb-false v i t in
    Memᴰ.tail (mem-up_from (suc i) n v (omega arith) (omega arith)))

pub below-up_from : (i n v : ℕ) → Memᴰ v (up_from i n) → v < i + n
unfolding up_from
below-up_from i zero v m = absurd (Memᴰ.not-nil m)
below-up_from i (suc n) v m = ⊎_elim (λ (e : v ≡ i). omega arith) (λ k. omega (arith, below-up_from (suc i) n v k)) (Memᴰ.cases_cons m)

module _ (g : Graph) where
  ranks-rise : (r : ℕ → ℕ) → Ranks g r → {u v : ℕ} → Walk g u v → r u < r v
  ranks-rise r ranks (one {u = u} {v = v} h) = ranks u v h
  ranks-rise r ranks (more {u = u} {v = v} h w) = omega (arith, ranks u v h, ranks-rise r ranks w)

  pub ranked-open : (r : ℕ → ℕ) → Ranks g r → Closed g → ⊥
  ranked-open r ranks (v, w) = omega (arith, ranks-rise r ranks w)

  -- u and then each of vs, along edges
  Trail : ℕ → List ℕ → Type 0
  Trail u [] = Unit {0}
  Trail u (v ∷ vs) = HasEdge g u v × Trail v vs

  trail-to : (u w : ℕ) (vs : List ℕ) → Trail u vs → Memᴰ w vs → Walk g u w
  unfolding Trail
  trail-to u w [] t m = absurd (Memᴰ.not-nil m)
  trail-to u w (v ∷ vs) t m = ⊎_elim (λ (e : w ≡ v). rw e (one t.0)) (λ n. more t.0 (trail-to v w vs t.1 n)) (Memᴰ.cases_cons m)

  trail-closes : (u : ℕ) (vs : List ℕ) → Trail u vs → Closed g ⊎ Distinct (u ∷ vs)
  unfolding Trail
  trail-closes u [] t = inr (λ m. Memᴰ.not-nil m, tt)
  trail-closes u (v ∷ vs) t =
      by_test (elem_of u (v ∷ vs))
      (λ e. inl (u, trail-to u u (v ∷ vs) t (elem_of-true u (v ∷ vs) e)))
      (λ e. ⊎_elim inl (λ d. inr (λ m. clash (Rattle.laws.proofs.Edges.elem_of-mem u (v ∷ vs) m) e, d)) (trail-closes v vs t.1))

  -- the vertices that i rounds of peeling leave: those with a predecessor that was left
  pub alive : ℕ → ℕ → Bool
  alive zero v = ltb v (node_count g)
  alive (suc i) v = any_of (λ e. eqb e.to v && alive i e.from) g.edges

  alive-zero : (v : ℕ) → v < node_count g → alive 0 v ≡ true
  unfolding alive
  alive-zero v h = lt-ltb v (node_count g) h

  module _ (bounded : Bounded g) where
    alive-next : (i u v : ℕ) → HasEdge g u v → alive i u ≡ true → alive (suc i) v ≡ true
    unfolding alive
    alive-next i u v (e, m, p, q) t = any_of-mem (λ (e : Edge). eqb e.to v && alive i e.from) g.edges m (and-true _ _ (eq-eqb _ _ q) (rw p t))

    -- a vertex that is left after i rounds ends a trail of i edges
    back : (i v : ℕ) (vs : List ℕ) → alive i v ≡ true → Trail v vs → ((w : ℕ) → Memᴰ w (v ∷ vs) → w < node_count g)
        → (u : ℕ) × (us : List ℕ) × Trail u us × (length us ≡ i + length vs) × ((w : ℕ) → Memᴰ w (u ∷ us) → w < node_count g)
    unfolding alive Trail
    back zero v vs t k b = (v, vs, k, omega arith, b)
    back (suc i) v vs t k b =
        let x = any_of-true (λ (e : Edge). eqb e.to v && alive i e.from) g.edges t in
        let y = and_split _ _ x.2 in
        let e = x.0 in
        let z = back i e.from (v ∷ vs) y.1 ((e, x.1, refl, eqb-true _ _ y.0), k)
        (λ w m. ⊎_elim (λ (j : w ≡ e.from). rw j (bounded e x.1).0) (b w) (Memᴰ.cases_cons m)) in
        (z.0, z.1, z.2, omega (arith, z.3), z.4)

    left-closes : (v : ℕ) → v < node_count g → alive (node_count g) v ≡ true → Closed g
    unfolding Trail
    left-closes v h t =
        let z = back (node_count g) v [] t tt (λ w m. ⊎_elim (λ (j : w ≡ v). rw j h) (λ n. absurd (Memᴰ.not-nil n)) (Memᴰ.cases_cons m)) in
        ⊎_elim (λ c. c) (λ d. absurd (omega (arith, distinct-length (node_count g) (z.0 ∷ z.1) d z.4, z.3))) (trail-closes z.0 z.1 z.2)

    shift : (a b : ℕ → Bool) → b 0 ≡ true → ((i : ℕ) → a i ≡ true → b (suc i) ≡ true) → (n : ℕ) → suc (rank a n) ≤ rank b (suc n)
    unfolding rank bit
    shift a b z h zero = rw z (omega arith)
    shift a b z h (suc n) =
        let ih = shift a b z h n in
        by_test (a n) (λ t. rw (t, h n t) (omega (arith, ih))) (λ t. rw t (omega (arith, ih)))

    abbrev pub rounds : ℕ → ℕ
    rounds v = rank (λ i. alive i v) (node_count g)

    pub ranked-or-closed : Ranks g rounds ⊎ Closed g
    ranked-or-closed = by_test (any_of (alive (node_count g)) (up_from 0 (node_count g)))
        (λ t. let x = any_of-true (alive (node_count g)) (up_from 0 (node_count g)) t in
        inr (left-closes x.0 (omega (arith, below-up_from 0 (node_count g) x.0 x.1)) x.2))
        (λ t. inl λ u v l.
        let b : (u < node_count g) × (v < node_count g) = rw (l.2, l.3) at (bounded l.0 l.1) in
        let d : alive (node_count g) v ≡ false = by_test (alive (node_count g) v) (λ y.
        clash (any_of-mem (alive (node_count g)) (up_from 0 (node_count g))
        (mem-up_from 0 (node_count g) v (omega arith) (omega (arith, b.1))) y) t) (λ y. y) in
        omega (
          arith,
          shift (λ i. alive i u) (λ i. alive i v) (alive-zero v b.1) (λ i y. alive-next i u v l y) (node_count g),
          rank-no (λ i. alive i v) (node_count g) d,
        ))
