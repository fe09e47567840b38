-- Prefix, suffix and what remains of each, pushed one after the other. Assumes nothing.
use mathlib.Core.Path.{◌≡◌, sym, ap, ◌∙◌, subst}
use mathlib.Core.List.{List, ◌++◌, map}
use Prim.Native.Nat.{ℕ, ◌+◌, ◌*◌, ◌-◌, ◌≤◌, ◌<◌}
use native.Mathlib.Omega.{arith}
use lib.ListN.{length, get_or, take, drop, length-append, length-map, length-drop}
use lib.Seq.{length-take-le}
use lib.Dec.{ltb}
use borrow.Author.Tests.{lt-ltb, le-ltb}
use Rattle.defs.specs.Lists.{bit}
use Rattle.defs.specs.Rewrites.{non_empty, only_if}
use Rattle.laws.proofs.ListLaws.{by_order, of-keep_if}
use Rattle.laws.proofs.Diamonds.{non_empty-yes}
use Rattle.tabs.proofs.ListTabs.{of-mem-tab}
use Rattle.store.specs.Store.{part, nums_in}
use Rattle.store.proofs.VertexLaws.{part-long}
use Rattle.shared.specs.Shared.{start_at, len_at}
use Rattle.shared.proofs.SharedLoops.{in-pool}
use Rattle.split_and_update.specs.Pushed.{VertsPushed, filled, PartPushed, start_of, len_of, leaves, left_nodes, rest_of, Restables, RestsPushed}
use Rattle.split_and_update.specs.Split.{prefix_at, suffix_at, update_verts, Vertable, VertsAdded}
use Rattle.split_and_update.proofs.PushLaws.{verts-then, non_empty-no, part-own}
use Rattle.split_and_update.proofs.NodeLaws.{left-kept, map_same}

cut-length : (p : List ℕ) (a b : ℕ) → a ≤ b → b ≤ length p → length (take (b - a) (drop a p)) ≡ b - a
cut-length p a b h k = length-take-le (b - a) (drop a p) (omega (arith, length-drop a p))

pub filled_is : (p : List ℕ) (a n : ℕ) → a + n ≤ length p → non_empty (part p a n) ≡ ltb 0 n
filled_is p a n h = by_order n 0
    (λ (z : n ≤ 0). non_empty-no (part p a n) (part-long p a n h ∙ omega arith) ∙ sym (le-ltb 0 n z))
    (λ (z : 0 < n). non_empty-yes (part p a n) (omega (arith, part-long p a n h)) ∙ sym (lt-ltb 0 n z))

length-filled : (p : List ℕ) (a n : ℕ) → a + n ≤ length p → length (filled (part p a n)) ≡ bit (ltb 0 n)
unfolding only_if bit
length-filled p a n h = by_order n 0
    (λ (z : n ≤ 0). rw (filled_is p a n h, le-ltb 0 n z))
    (λ (z : 0 < n). rw (filled_is p a n h, lt-ltb 0 n z))

bit-one : (n : ℕ) → 0 < n → bit (ltb 0 n) ≡ 1
unfolding bit
bit-one n h = rw (lt-ltb 0 n h)

module _ {n : ℕ} {vs p nodes : List ℕ} {c x y : ℕ} (F : Vertable n vs p nodes c x y) where
  abbrev s₀ : ℕ
  s₀ = start_at vs nodes 0

  abbrev l₀ : ℕ
  l₀ = len_at vs nodes 0

  abbrev left : List ℕ
  left = left_nodes vs (x + y) nodes c

  some : 0 < c
  some = omega (arith, F.parts.some)

  pub inside : s₀ + l₀ ≤ length p
  inside = in-pool F.parts 0 some

  pub long₀ : x + y ≤ l₀
  long₀ = F.long 0 some

  pub small₀ : s₀ + l₀ < 4294967296
  small₀ = F.small 0 some

  at₁ : s₀ + x ≤ length p
  at₁ = omega (arith, inside, long₀)

  at₂ : s₀ + l₀ - y + y ≤ length p
  at₂ = omega (arith, inside, long₀)

  count : length (update_verts vs p nodes c x y) ≡ bit (ltb 0 x) + (bit (ltb 0 y) + length left)
  count = omega (
    arith,
    length-append (filled (prefix_at vs p nodes x)) (filled (suffix_at vs p nodes y) ++ map (rest_of vs p x y) left),
    length-append (filled (suffix_at vs p nodes y)) (map (rest_of vs p x y) left),
    length-filled p s₀ x at₁,
    length-filled p (s₀ + l₀ - y) y at₂,
    length-map left (rest_of vs p x y),
  )

  room : 2 * (n + (bit (ltb 0 x) + (bit (ltb 0 y) + length left))) ≤ length vs
  room = omega (arith, F.room, count)

  -- the parts that are handed on, where s and l are what the code reads of the first node
  pub first_part : {s : ℕ} → s ≡ s₀ → length (take (s + x - s) (drop s p)) ≡ x
  first_part {s} e = cut-length p s (s + x) (omega arith) (omega (arith, at₁)) ∙ omega arith

  pub from_is : {s l : ℕ} → s ≡ s₀ → l ≡ l₀ → s + l - y ≡ s₀ + l₀ - y
  from_is e f = omega arith

  pub last-part : {s l : ℕ} → s ≡ s₀ → l ≡ l₀ → length (take (s + l - (s + l - y)) (drop (s + l - y) p)) ≡ y
  last-part {s} {l} e f = cut-length p (s + l - y) (s + l) (omega arith) (omega (arith, inside)) ∙ omega (arith, long₀)

  pub ask₁ : {s l : ℕ} → s ≡ s₀ → l ≡ x → (s + l < 4294967296) × (0 < l → 2 * n + 2 ≤ length vs)
  ask₁ {s} {l} es el = (omega (arith, small₀, long₀), λ (h : 0 < l). omega (arith, room, bit-one x (omega arith)))

  pub part₁ : {s k₁ : ℕ} {vs₁ : List ℕ} → s ≡ s₀ → PartPushed n vs s (take (s + x - s) (drop s p)) k₁ vs₁
      → PartPushed n vs s₀ (prefix_at vs p nodes x) k₁ vs₁
  part₁ {s} {k₁} {vs₁} es A =
      let z : s + x - s ≡ x = omega arith in
      subst (λ (q : List ℕ). PartPushed n vs s₀ q k₁ vs₁) (λ i. take (z i) (drop (es i) p))
      (subst (λ (t : ℕ). PartPushed n vs t (take (s + x - s) (drop s p)) k₁ vs₁) es A)

  module _ {k₁ : ℕ} {vs₁ : List ℕ} (A₁ : PartPushed n vs s₀ (prefix_at vs p nodes x) k₁ vs₁) where
    V₁ : VertsPushed n vs p (filled (prefix_at vs p nodes x)) k₁ vs₁
    V₁ = A₁.is p (part-own p s₀ x at₁)

    k₁-is : k₁ ≡ n + bit (ltb 0 x)
    k₁-is = V₁.count ∙ ap (λ (z : ℕ). n + z) (length-filled p s₀ x at₁)

    pub ask₂ : {s l : ℕ} → s ≡ s₀ + l₀ - y → l ≡ y → (s + l < 4294967296) × (0 < l → 2 * k₁ + 2 ≤ length vs₁)
    ask₂ {s} {l} es el = (omega (arith, small₀, long₀), λ (h : 0 < l). omega (arith, room, k₁-is, V₁.len, bit-one y (omega arith)))

    pub part₂ : {s l k₂ : ℕ} {vs₂ : List ℕ} → s ≡ s₀ → l ≡ l₀
        → PartPushed k₁ vs₁ (s + l - y) (take (s + l - (s + l - y)) (drop (s + l - y) p)) k₂ vs₂
        → PartPushed k₁ vs₁ (s₀ + l₀ - y) (suffix_at vs p nodes y) k₂ vs₂
    part₂ {s} {l} {k₂} {vs₂} es el A =
        let z : s + l - (s + l - y) ≡ y = omega (arith, long₀) in
        subst (λ (q : List ℕ). PartPushed k₁ vs₁ (s₀ + l₀ - y) q k₂ vs₂) (λ i. take (z i) (drop (es i + el i - y) p))
        (subst (λ (t : ℕ). PartPushed k₁ vs₁ t (take (s + l - (s + l - y)) (drop (s + l - y) p)) k₂ vs₂) (from_is es el) A)

    module _ {k₂ : ℕ} {vs₂ : List ℕ} (A₂ : PartPushed k₁ vs₁ (s₀ + l₀ - y) (suffix_at vs p nodes y) k₂ vs₂) where
      V₂ : VertsPushed k₁ vs₁ p (filled (suffix_at vs p nodes y)) k₂ vs₂
      V₂ = A₂.is p (part-own p (s₀ + l₀ - y) y at₂)

      k₂-is : k₂ ≡ k₁ + bit (ltb 0 y)
      k₂-is = V₂.count ∙ ap (λ (z : ℕ). k₁ + z) (length-filled p (s₀ + l₀ - y) y at₂)

      start-same : (i : ℕ) → i < c → start_of vs₂ (get_or nodes i 0) ≡ start_at vs nodes i
      start-same i h = V₂.same (2 * get_or nodes i 0) (omega (arith, F.parts.below i h, k₁-is))
          ∙ V₁.same (2 * get_or nodes i 0) (omega (arith, F.parts.below i h))

      len-same : (i : ℕ) → i < c → len_of vs₂ (get_or nodes i 0) ≡ len_at vs nodes i
      len-same i h = V₂.same (2 * get_or nodes i 0 + 1) (omega (arith, F.parts.below i h, k₁-is))
          ∙ V₁.same (2 * get_or nodes i 0 + 1) (omega (arith, F.parts.below i h))

      left_is : left_nodes vs₂ (x + y) nodes c ≡ left
      left_is = left-kept vs vs₂ nodes (x + y) c len-same

      pub rests : Restables k₂ vs₂ p nodes c x y
      rests = record {
        nodes-room = F.parts.room;
        room = omega (arith, room, k₁-is, k₂-is, V₁.len, V₂.len, ap length left_is);
        below = λ i h. omega (arith, F.parts.below i h, k₁-is, k₂-is);
        inside = λ i h. omega (arith, in-pool F.parts i h, start-same i h, len-same i h);
        small = λ i h. omega (arith, F.small i h, start-same i h, len-same i h);
        long = λ i h. omega (arith, F.long i h, len-same i h);
      }

      rests-same : map (rest_of vs₂ p x y) (left_nodes vs₂ (x + y) nodes c) ≡ map (rest_of vs p x y) left
      rests-same = ap (map (rest_of vs₂ p x y)) left_is ∙ map_same (rest_of vs₂ p x y) (rest_of vs p x y) left (λ v k.
          let r = of-mem-tab c (λ (i : ℕ). get_or nodes i 0) (of-keep_if (leaves vs (x + y)) (nums_in c nodes) k).0 in
          rw r.2 (λ i. part p (start-same r.0 r.1 i + x) (len-same r.0 r.1 i - y - x)))

      pub verts-added : {k₃ : ℕ} {vs₃ : List ℕ} → RestsPushed k₂ vs₂ p nodes c x y k₃ vs₃
          → VertsAdded n vs p nodes c x y (record { suffix = k₁; middles = k₂; all = k₃ }) vs₃
      verts-added {k₃} {vs₃} A₃ = record {
        suffix = omega (arith, k₁-is);
        middles = omega (arith, k₂-is);
        all = omega (arith, A₃.is.count, length-map (left_nodes vs₂ (x + y) nodes c) (rest_of vs₂ p x y), ap length left_is);
        is = verts-then V₁ (verts-then V₂ (subst (λ (z : List (List ℕ)). VertsPushed k₂ vs₂ p z k₃ vs₃) rests-same A₃.is));
        within = λ used w.
            let b = w.at (get_or nodes 0 0) (F.parts.below 0 some) in
            A₃.within used (A₂.within used (omega (arith, b, long₀, part-long p (s₀ + l₀ - y) y at₂))
            (A₁.within used (omega (arith, b, long₀, part-long p s₀ x at₁)) w));
      }
