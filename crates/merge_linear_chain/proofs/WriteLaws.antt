-- Writing a chain's sequence behind the pool. Assumes nothing.
use mathlib.Core.Path.{◌≡◌, refl, sym, ap, ◌∙◌}
use mathlib.Core.Logic.{inl}
use mathlib.Core.List.{List, [], ◌∷◌, ◌++◌, map, map-append, append-nil}
use Prim.Native.Nat.{ℕ, ◌+◌, ◌*◌, ◌-◌, ◌≤◌, ◌<◌}
use native.Mathlib.Omega.{arith}
use lib.ListN.{length, get_or, take, drop}
use lib.Seq.{take-add, drop-drop}
use Rattle.defs.specs.Lists.{concat}
use Rattle.tabs.proofs.Tabs.{tab-snoc, tab-zero, tab-ext}
use Rattle.tabs.proofs.SumTabs.{sum-none, sum_more, sum_below, concat-snoc, map-tab}
use Rattle.store.specs.Store.{part, seq_in, nums_in}
use Rattle.pool.specs.Pool.{Apart, Moved}
use Rattle.pool.proofs.PoolLaws.{part_same}
use Rattle.merge_linear_chain.specs.Zip.{SequenceCopyable, Copied, ChainWritable, ChainWritten}
use Rattle.store.specs.Store.{nodes_length}

pub copy_apart : {vs p : List ℕ} {at v : ℕ} {start len : ℕ} → SequenceCopyable vs p at v → start ≡ get_or vs (2 * v) 0 → len ≡ get_or vs (2 * v + 1) 0
    → Apart p at start len
copy_apart C s l = record { to_room = omega (arith, C.room); from-room = omega (arith, C.room, C.before); apart = inl (omega (arith, C.before)) }

pub copied : {vs p p' : List ℕ} {at v start len : ℕ} → SequenceCopyable vs p at v → start ≡ get_or vs (2 * v) 0 → len ≡ get_or vs (2 * v + 1) 0
    → Moved p at start len p' → length p' ≡ length p → Copied vs p at v (at + len) p'
copied {vs} {p} {p'} {at} {v} C s l M q = record {
  end = omega arith;
  old = M.before;
  is = part_same p p' (get_or vs (2 * v) 0) at (get_or vs (2 * v + 1) 0) (omega (arith, C.room, C.before)) (omega (arith, C.room))
      (λ i h. M.copied i (omega arith) ∙ ap (λ (x : ℕ). get_or p (x + i) 0) s);
}

part-append : (p : List ℕ) (a n l : ℕ) → part p a (n + l) ≡ part p a n ++ part p (a + n) l
part-append p a n l = take-add n l (drop a p) ∙ ap (λ (x : List ℕ). take n (drop a p) ++ take l x) (drop-drop n a p)

pub record Writing (vs p₀ : List ℕ) (used start : ℕ) (nodes : List ℕ) (c : ℕ) (p : List ℕ) (at i : ℕ) : Type 0 where
  pub high : i ≤ c
  pub len : length p ≡ length p₀
  pub end : at ≡ used + get_or vs (2 * start + 1) 0 + nodes_length vs nodes i
  pub old : (k : ℕ) → k < used → get_or p k 0 ≡ get_or p₀ k 0
  pub is : part p used (at - used) ≡ concat (map (seq_in vs p₀) (start ∷ nums_in i nodes))

module _ {vs p₀ : List ℕ} {used start : ℕ} {nodes : List ℕ} {c : ℕ} (F : ChainWritable vs p₀ used start nodes c) where
  pub first-copyable : SequenceCopyable vs p₀ used start
  first-copyable = record { vs-room = F.start-room; before = F.start-before; room = omega (arith, F.room) }

  module _ {p : List ℕ} {at i : ℕ} (W : Writing vs p₀ used start nodes c p at i) (h : i < c) where
    node : ℕ
    node = get_or nodes i 0

    fits : at + get_or vs (2 * get_or nodes i 0 + 1) 0 ≤ length p₀
    fits = omega (arith, F.room, W.end, sum_below c i (λ (j : ℕ). get_or vs (2 * get_or nodes j 0 + 1) 0) h)

    pub next-copyable : SequenceCopyable vs p at (get_or nodes i 0)
    next-copyable = record { vs-room = F.vs-room i h; before = omega (arith, F.before i h, W.end); room = omega (arith, fits, W.len) }

    pub writing_more : {p' : List ℕ} {at' : ℕ} → Copied vs p at (get_or nodes i 0) at' p' → length p' ≡ length p → Writing vs p₀ used start nodes c p' at' (i + 1)
    writing_more {p'} {at'} C q = record {
      high = omega arith;
      len = q ∙ W.len;
      end = omega (arith, C.end, W.end, sum_more i (λ (j : ℕ). get_or vs (2 * get_or nodes j 0 + 1) 0));
      old = λ k b. C.old k (omega (arith, W.end)) ∙ W.old k b;
      is = ap (part p' used) size ∙ part-append p' used (at - used) (get_or vs (2 * get_or nodes i 0 + 1) 0)
          ∙ (λ j. before j ++ behind j) ∙ sym (concat-snoc (map (seq_in vs p₀) (start ∷ nums_in i nodes)) (seq_in vs p₀ (get_or nodes i 0)))
          ∙ ap concat (sym (map-append (seq_in vs p₀) (start ∷ nums_in i nodes) (get_or nodes i 0 ∷ [])))
          ∙ ap (λ (l : List ℕ). concat (map (seq_in vs p₀) (start ∷ l))) (sym (tab-snoc i (λ (j : ℕ). get_or nodes j 0)));
    }
      where
        size : at' - used ≡ (at - used) + get_or vs (2 * get_or nodes i 0 + 1) 0
        size = omega (arith, C.end, W.end)

        place : used + (at - used) ≡ at
        place = omega (arith, W.end)

        before : part p' used (at - used) ≡ concat (map (seq_in vs p₀) (start ∷ nums_in i nodes))
        before = part_same p p' used used (at - used) (omega (arith, fits, W.len, W.end)) (omega (arith, fits, W.len, q, W.end)) (λ x b.
            C.old (used + x) (omega (arith, W.end))) ∙ W.is

        behind : part p' (used + (at - used)) (get_or vs (2 * get_or nodes i 0 + 1) 0) ≡ seq_in vs p₀ (get_or nodes i 0)
        behind = ap (λ (x : ℕ). part p' x (get_or vs (2 * get_or nodes i 0 + 1) 0)) place ∙ C.is
            ∙ part_same p₀ p (get_or vs (2 * get_or nodes i 0) 0) (get_or vs (2 * get_or nodes i 0) 0) (get_or vs (2 * get_or nodes i 0 + 1) 0)
            (omega (arith, F.before i h, fits, W.end)) (omega (arith, F.before i h, fits, W.end, W.len)) (λ x b.
            W.old (get_or vs (2 * get_or nodes i 0) 0 + x) (omega (arith, F.before i h)))

-- the first copy is made before the loop: p is the pool at entry, p₁ the pool where the loop starts
module _ {vs p : List ℕ} {used start : ℕ} {nodes : List ℕ} {c : ℕ} (F : ChainWritable vs p used start nodes c) {p₁ : List ℕ} {at₁ : ℕ} (C :
    Copied vs p used start at₁ p₁) (q : length p₁ ≡ length p) where
  pub writable_then : ChainWritable vs p₁ used start nodes c
  writable_then = record {
    nodes-room = F.nodes-room;
    start-room = F.start-room;
    start-before = F.start-before;
    vs-room = F.vs-room;
    before = F.before;
    room = omega (arith, F.room, q);
  }

  seq-kept : (v : ℕ) → get_or vs (2 * v) 0 + get_or vs (2 * v + 1) 0 ≤ used → seq_in vs p₁ v ≡ seq_in vs p v
  seq-kept v b = part_same p p₁ (get_or vs (2 * v) 0) (get_or vs (2 * v) 0) (get_or vs (2 * v + 1) 0) (omega (arith, F.room))
      (omega (arith, F.room, q)) (λ x h. C.old (get_or vs (2 * v) 0 + x) (omega arith))

  pub writing_start : Writing vs p₁ used start nodes c p₁ at₁ 0
  unfolding concat
  writing_start = record {
    high = omega arith;
    len = refl;
    end = omega (arith, C.end, sum-none (λ (i : ℕ). get_or vs (2 * get_or nodes i 0 + 1) 0));
    old = λ k b. refl;
    is = ap (part p₁ used) size ∙ C.is ∙ sym (seq-kept start F.start-before) ∙ sym (append-nil _)
        ∙ sym (ap (λ (l : List ℕ). seq_in vs p₁ start ++ concat (map (seq_in vs p₁) l)) (tab-zero (λ (i : ℕ). get_or nodes i 0)));
  }
    where
      size : at₁ - used ≡ get_or vs (2 * start + 1) 0
      size = omega (arith, C.end)

  seqs-kept : map (seq_in vs p₁) (nums_in c nodes) ≡ map (seq_in vs p) (nums_in c nodes)
  seqs-kept = map-tab (seq_in vs p₁) c (λ (i : ℕ). get_or nodes i 0)
      ∙ tab-ext c (λ (i : ℕ). seq_in vs p₁ (get_or nodes i 0)) (λ (i : ℕ). seq_in vs p (get_or nodes i 0)) (λ i h.
      seq-kept (get_or nodes i 0) (F.before i h)) ∙ sym (map-tab (seq_in vs p) c (λ (i : ℕ). get_or nodes i 0))

  pub writing-end : {p' : List ℕ} {at i : ℕ} → Writing vs p₁ used start nodes c p' at i → c ≤ i → ChainWritten vs p used start nodes c at p'
  writing-end {p'} {at} {i} W h = let e : i ≡ c = omega (arith, W.high) in record {
    end = W.end ∙ ap (λ (x : ℕ). used + get_or vs (2 * start + 1) 0 + nodes_length vs nodes x) e;
    old = λ k b. W.old k b ∙ C.old k b;
    is = W.is ∙ ap (λ (x : ℕ). concat (map (seq_in vs p₁) (start ∷ nums_in x nodes))) e ∙ (λ j. concat (seq-kept start F.start-before j ∷ seqs-kept j));
  }
