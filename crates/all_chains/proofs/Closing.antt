-- Closing up twice is closing up once.
-- Assumes nothing.
use Prim.Native.Nat.{ℕ, zero, suc, ◌+◌, ◌<◌}
use native.Mathlib.Omega.{arith}
use native.Mathlib.Nat.{not-suc-le-zero, le_of_suc-le-suc, add-zero}
use mathlib.Core.Path.{◌≡◌, refl, sym, ap, ◌∙◌}
use mathlib.Core.Bool.{Bool, true, false, ◌&&◌}
use mathlib.Core.List.{List, [], ◌∷◌, map, Memᴰ}
use lib.ListN.{length, set}
use Rattle.defs.specs.Lists.{keep_if, any_of, keep_at, rank}
use Rattle.defs.specs.SeqGraph.{Edge, Graph, remap_edge, compact_vertices}
use Rattle.laws.proofs.Walks.{by_test}
use Rattle.laws.proofs.ListLaws.{and_split, and-true, any-yes, any-no, keep_if-yes, keep_if-no, keep_at-yes, keep_at-no, rank-yes, rank-no, rank_mono}

-- two tests that follow from each other
pub same_test : (a b : Bool) → (a ≡ true → b ≡ true) → (b ≡ true → a ≡ true) → a ≡ b
same_test true b f g = sym (f refl)
same_test false true f g = g refl
same_test false false f g = refl

pub and_left : (a b : Bool) → a ≡ false → (a && b) ≡ false
and_left a b t = rw t

pub and_right : (a b : Bool) → b ≡ false → (a && b) ≡ false
and_right true b t = t
and_right false b t = refl

-- members that are changed, sifted, changed again and sifted again
module _ {A B C : Type 0} (a : A → B) (b : B → Bool) (f : B → C) (t : C → Bool) (t' : A → Bool) where
  pub keep_if-through : (xs : List A) → ((x : A) → Memᴰ x xs → (b (a x) && t (f (a x))) ≡ t' x) → keep_if t (map f (keep_if b (map a xs)))
      ≡ map (λ x. f (a x)) (keep_if t' xs)
  unfolding keep_if
  keep_if-through [] h = refl
  keep_if-through (x ∷ xs) h =
      let ih = keep_if-through xs (λ y m. h y (Memᴰ.tail m)) in
      let e = h x (Memᴰ.head refl) in
      by_test (b (a x))
      (λ u. by_test (t (f (a x)))
      (λ v. rw (
        keep_if-yes b (a x) (map a xs) u,
        keep_if-yes t (f (a x)) (map f (keep_if b (map a xs))) v,
        keep_if-yes t' x xs (sym e ∙ and-true _ _ u v),
      ) (ap (λ (l : List C). f (a x) ∷ l) ih))
      (λ v. rw (
        keep_if-yes b (a x) (map a xs) u,
        keep_if-no t (f (a x)) (map f (keep_if b (map a xs))) v,
        keep_if-no t' x xs (sym e ∙ and_right (b (a x)) _ v),
      ) ih))
      (λ u. rw (keep_if-no b (a x) (map a xs) u, keep_if-no t' x xs (sym e ∙ and_left _ _ u)) ih)

  pub any_of-through : (xs : List A) → ((x : A) → Memᴰ x xs → (b (a x) && t (f (a x))) ≡ t' x) → any_of t (map f (keep_if b (map a xs))) ≡ any_of t' xs
  unfolding keep_if any_of
  any_of-through [] h = refl
  any_of-through (x ∷ xs) h =
      let ih = any_of-through xs (λ y m. h y (Memᴰ.tail m)) in
      let e = h x (Memᴰ.head refl) in
      by_test (b (a x))
      (λ u. by_test (t (f (a x)))
      (λ v. ap (λ (l : List B). any_of t (map f l)) (keep_if-yes b (a x) (map a xs) u)
      ∙ (any-yes t (f (a x)) (map f (keep_if b (map a xs))) v ∙ sym (any-yes t' x xs (sym e ∙ and-true _ _ u v))))
      (λ v. ap (λ (l : List B). any_of t (map f l)) (keep_if-yes b (a x) (map a xs) u)
      ∙ (any-no t (f (a x)) (map f (keep_if b (map a xs))) v ∙ (ih ∙ sym (any-no t' x xs (sym e ∙ and_right (b (a x)) _ v))))))
      (λ u. ap (λ (l : List B). any_of t (map f l)) (keep_if-no b (a x) (map a xs) u) ∙ (ih ∙ sym (any-no t' x xs (sym e ∙ and_left _ _ u))))

-- changed after the closing up, or before it
module _ {A B C : Type 0} (a b : A → B) (both : B → Bool) (f : B → C) (d : C → C) where
  pub map-through : (xs : List A) → ((x : A) → Memᴰ x xs → both (b x) ≡ both (a x))
      → ((x : A) → Memᴰ x xs → both (a x) ≡ true → d (f (a x)) ≡ f (b x))
      → map d (map f (keep_if both (map a xs))) ≡ map f (keep_if both (map b xs))
  unfolding keep_if
  map-through [] h k = refl
  map-through (x ∷ xs) h k =
      let ih = map-through xs (λ y m. h y (Memᴰ.tail m)) (λ y m. k y (Memᴰ.tail m)) in
      let e = h x (Memᴰ.head refl) in
      by_test (both (a x))
      (λ u. rw (keep_if-yes both (a x) (map a xs) u, keep_if-yes both (b x) (map b xs) (e ∙ u)) (λ i. k x (Memᴰ.head refl) u i ∷ ih i))
      (λ u. rw (keep_if-no both (a x) (map a xs) u, keep_if-no both (b x) (map b xs) (e ∙ u)) ih)

-- p, and then q under the new numbers
module _ (p q q' : ℕ → Bool) (same : (v : ℕ) → p v ≡ true → q' (rank p v) ≡ q v) where
  abbrev pub pq : ℕ → Bool
  pq v = p v && q v

  pub rank-rank : (n : ℕ) → rank q' (rank p n) ≡ rank pq n
  unfolding rank
  rank-rank zero = refl
  rank-rank (suc n) =
      let ih = rank-rank n in
      by_test (p n)
      (λ t. ap (rank q') (rank-yes p n t) ∙ by_test (q n)
      (λ u. rank-yes q' (rank p n) (same n t ∙ u) ∙ (ap suc ih ∙ sym (rank-yes pq n (and-true _ _ t u))))
      (λ u. rank-no q' (rank p n) (same n t ∙ u) ∙ (ih ∙ sym (rank-no pq n (and_right (p n) _ u)))))
      (λ t. ap (rank q') (rank-no p n t) ∙ (ih ∙ sym (rank-no pq n (and_left _ _ t))))

  pub keep_at-keep_at : {A : Type 0} (xs : List A) (i : ℕ) → keep_at q' (rank p i) (keep_at p i xs) ≡ keep_at pq i xs
  unfolding keep_at
  keep_at-keep_at [] i = refl
  keep_at-keep_at {A} (x ∷ xs) i =
      let ih = keep_at-keep_at xs (suc i) in
      by_test (p i)
      (λ t. let ih' : keep_at q' (suc (rank p i)) (keep_at p (suc i) xs) ≡ keep_at pq (suc i) xs = rw (rank-yes p i t) at ih in
      ap (keep_at q' (rank p i)) (keep_at-yes p i x xs t) ∙ by_test (q i)
      (λ u. keep_at-yes q' (rank p i) x (keep_at p (suc i) xs) (same i t ∙ u) ∙ (ap (λ (l : List A). x ∷ l) ih' ∙ sym (keep_at-yes pq i x xs (and-true _ _ t u))))
      (λ u. keep_at-no q' (rank p i) x (keep_at p (suc i) xs) (same i t ∙ u) ∙ (ih' ∙ sym (keep_at-no pq i x xs (and_right (p i) _ u)))))
      (λ t. let ih' : keep_at q' (rank p i) (keep_at p (suc i) xs) ≡ keep_at pq (suc i) xs = rw (rank-no p i t) at ih in
      ap (keep_at q' (rank p i)) (keep_at-no p i x xs t) ∙ (ih' ∙ sym (keep_at-no pq i x xs (and_left _ _ t))))

  abbrev both_of : (ℕ → Bool) → Edge → Bool
  both_of r e = r e.from && r e.to

  remap-remap : (e : Edge) → remap_edge q' (remap_edge p e) ≡ remap_edge pq e
  unfolding remap_edge
  remap-remap e = λ i. record { from = rank-rank e.from i; to = rank-rank e.to i; support = e.support; is_ref = e.is_ref; capped = e.capped }

  swap_and : (a b c d : Bool) → ((a && b) && (c && d)) ≡ ((a && c) && (b && d))
  swap_and true true c d = refl
  swap_and true false true d = refl
  swap_and true false false d = refl
  swap_and false b c d = refl

  both-both : (e : Edge) → (both_of p e && both_of q' (remap_edge p e)) ≡ both_of pq e
  unfolding remap_edge
  both-both e = by_test (both_of p e)
      (λ t. let a = and_split _ _ t in rw (same e.from a.0, same e.to a.1, a.0, a.1))
      (λ t. and_left _ _ t ∙ sym (swap_and (p e.from) (q e.from) (p e.to) (q e.to) ∙ and_left _ _ t))

  map-id : {A : Type 0} (xs : List A) → map (λ (x : A). x) xs ≡ xs
  map-id [] = refl
  map-id {A} (x ∷ xs) = ap (λ (l : List A). x ∷ l) (map-id xs)

  map-map-same : (es : List Edge) → map (remap_edge q') (map (remap_edge p) es) ≡ map (remap_edge pq) es
  map-map-same [] = refl
  map-map-same (e ∷ es) = λ i. remap-remap e i ∷ map-map-same es i

  pub edges-edges : (es : List Edge) → map (remap_edge q') (keep_if (both_of q') (map (remap_edge p) (keep_if (both_of p) es)))
      ≡ map (remap_edge pq) (keep_if (both_of pq) es)
  edges-edges es =
      ap (λ (l : List Edge). map (remap_edge q') (keep_if (both_of q') (map (remap_edge p) (keep_if (both_of p) l)))) (sym (map-id es))
      ∙ (ap (map (remap_edge q')) (keep_if-through (λ (e : Edge). e) (both_of p) (remap_edge p) (both_of q') (both_of pq) es (λ e m. both-both e))
      ∙ map-map-same (keep_if (both_of pq) es))

  -- closing up by p and then by q' is closing up once
  pub compact-compact : (g : Graph) → compact_vertices q' (compact_vertices p g) ≡ compact_vertices pq g
  unfolding compact_vertices rank
  compact-compact g = λ i. record { k = g.k; verts = keep_at-keep_at g.verts 0 i; edges = edges-edges g.edges i }

-- a store before closing up is a store afterwards, at the new number
pub keep_at-set : {A : Type 0} (p : ℕ → Bool) (xs : List A) (i j n : ℕ) (x : A) → p (i + j) ≡ true → rank p (i + j) ≡ rank p i + n → j < length xs
    → set (keep_at p i xs) n x ≡ keep_at p i (set xs j x)
keep_at-set p [] i j n x t r h = absurd (not-suc-le-zero h)
keep_at-set p (y ∷ xs) i zero n x t r h =
    let z : n ≡ 0 = omega (arith, simp add-zero at r) in
    rw (z, keep_at-yes p i y xs (simp add-zero at t), keep_at-yes p i x xs (simp add-zero at t))
keep_at-set {A} p (y ∷ xs) i (suc j) n x t r h =
    let e : i + suc j ≡ suc i + j = omega arith in
    let t' : p (suc i + j) ≡ true = rw e at t in
    let r' : rank p (suc i + j) ≡ rank p i + n = rw e at r in
    by_test (p i)
    (λ u. rw (keep_at-yes p i y xs u, keep_at-yes p i y (set xs j x) u) (later u t' r' n refl (λ n' q. keep_at-set p xs (suc i) j n' x t' q (le_of_suc-le-suc h))))
    (λ u. rw (keep_at-no p i y xs u, keep_at-no p i y (set xs j x) u) (keep_at-set p xs (suc i) j n x t' (omega (arith, r', rank-no p i u)) (le_of_suc-le-suc h)))
  where
    later : p i ≡ true → p (suc i + j) ≡ true → rank p (suc i + j) ≡ rank p i + n → (m : ℕ) → n ≡ m
        → ((n' : ℕ) → rank p (suc i + j) ≡ rank p (suc i) + n' → set (keep_at p (suc i) xs) n' x ≡ keep_at p (suc i) (set xs j x))
        → set (y ∷ keep_at p (suc i) xs) m x ≡ y ∷ keep_at p (suc i) (set xs j x)
    later u t' r' zero f ih = absurd (omega (arith, rank-yes p i u, rank_mono p (suc i) (suc i + j) (omega arith)))
    later u t' r' (suc n') f ih = ap (λ (l : List A). y ∷ l) (ih n' (omega (arith, rank-yes p i u)))
