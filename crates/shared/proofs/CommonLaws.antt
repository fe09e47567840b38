-- The shared prefix is the longest list that all begin with; by index. Assumes nothing.
use mathlib.Core.Path.{◌≡◌, refl, sym, ap, ◌∙◌}
use mathlib.Core.List.{List, [], ◌∷◌, ◌++◌, append_assoc, append-nil, Memᴰ}
use Prim.Native.Nat.{ℕ, ◌+◌, ◌-◌, ◌≤◌, ◌<◌}
use native.Mathlib.Omega.{arith}
use lib.ListN.{length, get_or, length-append}
use lib.Seq.{get_or-append-add}
use borrow.Author.Count.{below_more}
use borrow.Author.Tests.{eq-eqb}
use Rattle.defs.specs.Lists.{tab, common_prefix₂, common_prefix_by, common_prefix}
use Rattle.laws.proofs.SharedLaws.{Begins, shared_prefix-each}
use Rattle.tabs.proofs.Tabs.{length-tab, get_or-tab, tab-ext}
use Rattle.tabs.proofs.ListTabs.{tab-append, mem-tab, of-mem-tab}

first-same : (a : ℕ) (x y : List ℕ) → common_prefix₂ (a ∷ x) (a ∷ y) ≡ a ∷ common_prefix₂ x y
unfolding common_prefix₂
first-same a x y = rw (eq-eqb a a refl, common_prefix₂)

greatest₂ : (z x y : List ℕ) → Begins z x → Begins z y → Begins z (common_prefix₂ x y)
greatest₂ [] x y b d = (common_prefix₂ x y, refl)
greatest₂ (a ∷ z) x y (t, e) (u, f) =
    let g = greatest₂ z (z ++ t) (z ++ u) (t, refl) (u, refl) in
    rw (e, f) (g.0, first-same a (z ++ t) (z ++ u) ∙ ap (λ (l : List ℕ). a ∷ l) g.1)

greatest-by : (z x : List ℕ) (l : List (List ℕ)) → Begins z x → ((s : List ℕ) → Memᴰ s l → Begins z s) → Begins z (common_prefix_by x l)
unfolding common_prefix_by
greatest-by z x [] b h = b
greatest-by z x (y ∷ l) b h = greatest-by z (common_prefix₂ x y) l (greatest₂ z x y b (h y (Memᴰ.head refl))) (λ s m. h s (Memᴰ.tail m))

greatest : (z : List ℕ) (l : List (List ℕ)) → 0 < length l → ((s : List ℕ) → Memᴰ s l → Begins z s) → Begins z (common_prefix l)
unfolding common_prefix
greatest z [] b h = absurd (omega arith)
greatest z (x ∷ l) b h = greatest-by z x l (h x (Memᴰ.head refl)) (λ s m. h s (Memᴰ.tail m))

-- what all begin with, and nothing longer
common-is : (l : List (List ℕ)) (q : List ℕ) → 0 < length l → ((s : List ℕ) → Memᴰ s l → Begins q s)
    → ((b : ℕ) → ((s : List ℕ) → Memᴰ s l → Begins (q ++ (b ∷ [])) s) → ⊥) → common_prefix l ≡ q
common-is l q h each stop = go (greatest q l h each)
  where
    go : Begins q (common_prefix l) → common_prefix l ≡ q
    go ([], e) = e ∙ append-nil q
    go (b ∷ t, e) = absurd (stop b (λ s m. let k = shared_prefix-each l m in
        (t ++ k.0, k.1 ∙ ap (λ (x : List ℕ). x ++ k.0) e ∙ rw (append_assoc q (b ∷ t) k.0, append_assoc q (b ∷ []) (t ++ k.0)))))

begins-tab : (r n : ℕ) (f g : ℕ → ℕ) → r ≤ n → ((i : ℕ) → i < r → g i ≡ f i) → Begins (tab r f) (tab n g)
begins-tab r n f g h same =
    let e : n ≡ r + (n - r) = omega arith in (
      tab (n - r) (λ (i : ℕ). g (r + i)),
      ap (λ (x : ℕ). tab x g) e ∙ tab-append r (n - r) g
          ∙ ap (λ (l : List ℕ). l ++ tab (n - r) (λ (i : ℕ). g (r + i))) (tab-ext r g f same),
    )

of-begins : (r n : ℕ) (f g : ℕ → ℕ) (b : ℕ) → Begins (tab r f ++ (b ∷ [])) (tab n g) → (r < n) × (g r ≡ b)
of-begins r n f g b (t, e) =
    let l = length-append (tab r f ++ (b ∷ [])) t in
    let k = length-append (tab r f) (b ∷ []) in
    let h : r < n = omega (arith, ap length e, l, k, length-tab r f, length-tab n g) in
    let z : length (tab r f) + 0 ≡ r = omega (arith, length-tab r f) in (
      h,
      sym (get_or-tab n g r 0 h) ∙ ap (λ (x : List ℕ). get_or x r 0) (e ∙ append_assoc (tab r f) (b ∷ []) t)
          ∙ ap (λ (i : ℕ). get_or (tab r f ++ (b ∷ t)) i 0) (sym z) ∙ get_or-append-add (tab r f) (b ∷ t) 0 0,
    )

-- ---- c sequences by index: the k-th has L k bytes, f k i at place i

-- the first r bytes are those of sequence 0
pub record Agreeing (L : ℕ → ℕ) (f : ℕ → ℕ → ℕ) (c r : ℕ) : Type 0 where
  pub le : (k : ℕ) → k < c → r ≤ L k
  pub same : (k : ℕ) → k < c → (i : ℕ) → i < r → f k i ≡ f 0 i

-- the first k sequences have byte i of sequence 0 at i
pub record Matching (L : ℕ → ℕ) (f : ℕ → ℕ → ℕ) (c i k : ℕ) : Type 0 where
  pub low : 1 ≤ k
  pub high : k ≤ c
  pub at : (j : ℕ) → j < k → (i < L j) × (f j i ≡ f 0 i)

module _ {L : ℕ → ℕ} {f : ℕ → ℕ → ℕ} {c : ℕ} where
  pub agreeing-start : Agreeing L f c 0
  agreeing-start = record { le = λ k h. omega arith; same = λ k h i b. absurd (omega arith) }

  pub matching-start : {i : ℕ} → 1 ≤ c → i < L 0 → Matching L f c i 1
  matching-start {i} s h = record { low = omega arith; high = s; at = λ j b. let e : j ≡ 0 = omega arith in rw e (h, refl) }

  pub matching-more : {i k : ℕ} → Matching L f c i k → k < c → (i < L k) × (f k i ≡ f 0 i) → Matching L f c i (k + 1)
  matching-more {i} {k} M h q = record { low = omega (arith, M.low); high = omega arith; at = below_more (λ (j : ℕ). (i < L j) × (f j i ≡ f 0 i)) k M.at q }

  pub agreeing-more : {i k : ℕ} → Agreeing L f c i → Matching L f c i k → c ≤ k → Agreeing L f c (i + 1)
  agreeing-more {i} {k} A M h = record {
    le = λ j b. omega (arith, (M.at j (omega arith)).0);
    same = λ j b. below_more (λ (x : ℕ). f j x ≡ f 0 x) i (A.same j b) (M.at j (omega arith)).1;
  }

  -- sequence k has no such byte at r
  pub agreed : (r k : ℕ) → Agreeing L f c r → k < c → (r < L k → f k r ≡ f 0 r → ⊥) → common_prefix (tab c (λ (j : ℕ). tab (L j) (f j))) ≡ tab r (f 0)
  agreed r k A h stop = common-is (tab c seqs) (tab r (f 0)) (omega (arith, length-tab c seqs)) each last
    where
      seqs : ℕ → List ℕ
      seqs j = tab (L j) (f j)

      each : (s : List ℕ) → Memᴰ s (tab c seqs) → Begins (tab r (f 0)) s
      each s m = let q = of-mem-tab c seqs m in rw q.2 (begins-tab r (L q.0) (f 0) (f q.0) (A.le q.0 q.1) (A.same q.0 q.1))

      last : (b : ℕ) → ((s : List ℕ) → Memᴰ s (tab c seqs) → Begins (tab r (f 0) ++ (b ∷ [])) s) → ⊥
      last b all =
          let x = of-begins r (L k) (f 0) (f k) b (all (seqs k) (mem-tab c seqs k h)) in
          let y = of-begins r (L 0) (f 0) (f 0) b (all (seqs 0) (mem-tab c seqs 0 (omega arith))) in
          stop x.0 (x.1 ∙ sym y.1)
