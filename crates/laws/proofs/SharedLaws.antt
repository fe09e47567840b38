-- Shared prefixes and suffixes, and what is left between them.
-- Assumes nothing.
use Prim.Native.Nat.{ℕ, zero, suc, ◌+◌, ◌-◌, ◌≤◌, ◌<◌}
use native.Mathlib.Omega.{arith}
use mathlib.Core.Path.{◌≡◌, refl, sym, ap, ◌∙◌}
use mathlib.Core.Logic.{◌⊎◌, inl, inr, ⊎_elim}
use mathlib.Core.Bool.{Bool, true, false}
use mathlib.Core.List.{List, [], ◌∷◌, ◌++◌, map, reverse, reverse-append, reverse-reverse, append_assoc, append-nil, Memᴰ}
use mathlib.Core.List.Memᴰ
use lib.Dec.{eqb}
use lib.ListN.{length, take, drop, length-append}
use lib.Seq.{take_at, drop_at, drop-append_seam}
use borrow.Author.Tests.{eqb-true}
use Rattle.defs.specs.Lists.{common_prefix₂, common_prefix_by, common_prefix, common_suffix}
use Rattle.defs.specs.SeqGraph.{Graph, vertex_sequence}
use Rattle.defs.specs.Rewrites.{mid_plan}
use Rattle.laws.proofs.Walks.{by_test}

abbrev pub Begins : List ℕ → List ℕ → Type 0
Begins p s = (t : List ℕ) × (s ≡ p ++ t)

begins-trans : (a b c : List ℕ) → Begins a b → Begins b c → Begins a c
begins-trans a b c (t, e) (u, f) = (t ++ u, rw (f, e, append_assoc))

shared₂-both : (a b : List ℕ) → Begins (common_prefix₂ a b) a × Begins (common_prefix₂ a b) b
unfolding common_prefix₂
shared₂-both [] b = (([], refl), (b, refl))
shared₂-both (x ∷ xs) [] = ((x ∷ xs, refl), ([], refl))
shared₂-both (x ∷ xs) (y ∷ ys) =
    let ih = shared₂-both xs ys in
    by_test (eqb x y)
    (λ t. rw (t, common_prefix₂) (
      (ih.0.0, ap (λ l. x ∷ l) ih.0.1),
      (ih.1.0, ap (λ l. y ∷ l) ih.1.1 ∙ ap (λ z. z ∷ (common_prefix₂ xs ys ++ ih.1.0)) (sym (eqb-true x y t))),
    ))
    (λ t. rw (t, common_prefix₂) ((x ∷ xs, refl), (y ∷ ys, refl)))

shared_by-first : (x : List ℕ) (l : List (List ℕ)) → Begins (common_prefix_by x l) x
unfolding common_prefix_by
shared_by-first x [] = ([], sym (append-nil x))
shared_by-first x (y ∷ l) = begins-trans (common_prefix_by (common_prefix₂ x y) l) (common_prefix₂ x y) x (shared_by-first (common_prefix₂ x y) l)
    (shared₂-both x y).0

shared_by-each : (x : List ℕ) (l : List (List ℕ)) {s : List ℕ} → Memᴰ s l → Begins (common_prefix_by x l) s
unfolding common_prefix_by
shared_by-each x [] m = absurd (Memᴰ.not-nil m)
shared_by-each x (y ∷ l) {s} m = ⊎_elim
    (λ (e : s ≡ y). rw e (begins-trans (common_prefix_by (common_prefix₂ x y) l) (common_prefix₂ x y) y (shared_by-first (common_prefix₂ x y) l)
    (shared₂-both x y).1))
    (λ n. shared_by-each (common_prefix₂ x y) l n)
    (Memᴰ.cases_cons m)

pub shared_prefix-each : (l : List (List ℕ)) {s : List ℕ} → Memᴰ s l → Begins (common_prefix l) s
unfolding common_prefix
shared_prefix-each [] m = absurd (Memᴰ.not-nil m)
shared_prefix-each (x ∷ l) {s} m = ⊎_elim (λ (e : s ≡ x). rw e (shared_by-first x l)) (λ n. shared_by-each x l n) (Memᴰ.cases_cons m)

pub shared_suffix-each : (l : List (List ℕ)) {s : List ℕ} → Memᴰ s l → (t : List ℕ) × (s ≡ t ++ common_suffix l)
unfolding common_suffix
shared_suffix-each l {s} m =
    let h = shared_prefix-each (map reverse l) (Memᴰ.map reverse m) in
    (reverse h.0, sym (reverse-reverse s) ∙ (ap reverse h.1 ∙ reverse-append (common_prefix (map reverse l)) h.0))

-- what is left of a sequence
left_is : (a b d q : List ℕ) → q ≡ a ++ (b ++ d) → drop (length a) (take (length q - length d) q) ≡ b
left_is a b d q e =
    let f : q ≡ (a ++ b) ++ d = e ∙ sym (append_assoc a b d) in
    let n : length (a ++ b) ≡ length q - length d = omega (arith, ap length f, length-append (a ++ b) d) in
    rw (f, take_at (a ++ b) d _ (n ∙ ap (λ x. length x - length d) f)) (drop-append_seam a b)

pub cut : (g : Graph) (mids : List ℕ) (m : ℕ) → Memᴰ m mids → (prefix suffix : List ℕ) → prefix
    ≡ common_prefix (map (vertex_sequence g) mids) → suffix ≡ common_suffix (map (drop (length prefix)) (map (vertex_sequence g) mids))
    → vertex_sequence g m ≡ prefix ++ ((mid_plan g (length prefix) (length suffix) m).remaining ++ suffix)
unfolding mid_plan
cut g mids m k prefix suffix e f =
    let h = shared_prefix-each (map (vertex_sequence g) mids) (Memᴰ.map (vertex_sequence g) k) in
    let a : vertex_sequence g m ≡ prefix ++ h.0 = h.1 ∙ ap (λ x. x ++ h.0) (sym e) in
    let d : drop (length prefix) (vertex_sequence g m) ≡ h.0 = ap (drop (length prefix)) a ∙ drop-append_seam prefix h.0 in
    let i = shared_suffix-each (map (drop (length prefix)) (map (vertex_sequence g) mids)) (Memᴰ.map (drop (length prefix)) (Memᴰ.map (vertex_sequence g) k)) in
    let j : h.0 ≡ i.0 ++ suffix = sym d ∙ (i.1 ∙ ap (λ x. i.0 ++ x) (sym f)) in
    let z : vertex_sequence g m ≡ prefix ++ (i.0 ++ suffix) = a ∙ ap (λ x. prefix ++ x) j in
    rw (left_is prefix i.0 suffix (vertex_sequence g m) z) z
