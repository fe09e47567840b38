-- The tests over the index and the pool are the definition's. Assumes nothing.
use mathlib.Core.Path.{◌≡◌, refl, sym, ap, ◌∙◌, subst}
use mathlib.Core.Bool.{Bool, true, false, not, ◌&&◌}
use mathlib.Core.Option.{some}
use mathlib.Core.List.{List, [], ◌∷◌, map, Memᴰ}
use Prim.Native.Nat.{ℕ, zero, suc, ◌+◌, ◌*◌, ◌-◌, ◌≤◌, ◌<◌}
use native.Mathlib.Nat.{add-zero, zero-add, suc-add, add-suc, not-suc-le-zero}
use native.Mathlib.Omega.{arith}
use lib.ListN.{length, get_or, drop}
use lib.Dec.{eqb, ltb}
use borrow.Author.Tests.{ne_eqb, lt-ltb, le-ltb}
use Rattle.defs.specs.Lists.{tab_from, all_of, elem_of, common_suffix, given}
use Rattle.defs.specs.SeqGraph.{Graph, vertex_sequence, out_degree, outgoing_nodes, is_ref_source}
use Rattle.defs.specs.Rewrites.{is_split, non_empty, would_eliminate_ref_source}
use Rattle.laws.proofs.Walks.{by_test}
use Rattle.laws.proofs.ListLaws.{clash, and_split, and-true, all_of-same}
use Rattle.tabs.proofs.Tabs.{length-tab, tab-ext, and-no-left, and-no-right}
use Rattle.tabs.proofs.ListTabs.{of-mem-tab}
use Rattle.tabs.proofs.SumTabs.{map-tab}
use Rattle.store.specs.Store.{part, seq_in, graph_in, nums_in}
use Rattle.store.proofs.VertexLaws.{part-long, seq-at}
use Rattle.compact.specs.Compact.{Below}
use Rattle.index.proofs.IndexLaws.{out-degree-is}
use Rattle.refs.specs.Refs.{RefSource}
use Rattle.shared.specs.Shared.{Parts, start_at, len_at, seqs_at, Suffix}
use Rattle.diamond.proofs.TestLaws.{all_of-no}
use Rattle.split_tests.specs.SplitTests.{one_out, is_long, SplitTestable, Eliminates, suffix_of, BeforeBottom, SplitBy, Splits}
use Rattle.std.specs.Prelude.{Some, None}

-- ---- the first reference source

module _ (g : Graph) (s : ℕ) where
  would-yes : (v : ℕ) (vs : List ℕ) → is_ref_source g v ≡ true → would_eliminate_ref_source g s (v ∷ vs) ≡ eqb (length (vertex_sequence g v)) s
  unfolding would_eliminate_ref_source
  would-yes v vs t = rw (t, would_eliminate_ref_source)

  would-no : (v : ℕ) (vs : List ℕ) → is_ref_source g v ≡ false → would_eliminate_ref_source g s (v ∷ vs) ≡ would_eliminate_ref_source g s vs
  unfolding would_eliminate_ref_source
  would-no v vs t = rw (t, would_eliminate_ref_source)

  found_from : (a n : ℕ) (f : ℕ → ℕ) (i : ℕ) → i < n → ((j : ℕ) → j < i → is_ref_source g (f (a + j)) ≡ false) → is_ref_source g (f (a + i)) ≡ true
      → would_eliminate_ref_source g s (tab_from a n f) ≡ eqb (length (vertex_sequence g (f (a + i)))) s
  unfolding tab_from
  found_from a zero f i h o t = absurd (not-suc-le-zero h)
  found_from a (suc n) f zero h o t = would-yes (f a) (tab_from (suc a) n f) (rw add-zero at t)
      ∙ ap (λ (x : ℕ). eqb (length (vertex_sequence g (f x))) s) (sym (add-zero a))
  found_from a (suc n) f (suc i) h o t =
      would-no (f a) (tab_from (suc a) n f) (rw add-zero at (o zero (omega arith)))
      ∙ found_from (suc a) n f i (omega arith) (λ j b. rw (suc-add, ← add-suc) (o (suc j) (omega arith))) (rw (suc-add, ← add-suc) t)
      ∙ ap (λ (x : ℕ). eqb (length (vertex_sequence g (f x))) s) (suc-add a i ∙ sym (add-suc a i))

  none_from : (a n : ℕ) (f : ℕ → ℕ) → ((j : ℕ) → j < n → is_ref_source g (f (a + j)) ≡ false) → would_eliminate_ref_source g s (tab_from a n f) ≡ false
  unfolding tab_from would_eliminate_ref_source
  none_from a zero f o = refl
  none_from a (suc n) f o =
      would-no (f a) (tab_from (suc a) n f) (rw add-zero at (o zero (omega arith)))
      ∙ none_from (suc a) n f (λ j b. rw (suc-add, ← add-suc) (o (suc j) (omega arith)))

-- no reference source among the first i
pub record SeekingSource (n m : ℕ) (es nodes : List ℕ) (c i : ℕ) : Type 0 where
  pub high : i ≤ c
  pub none : (j : ℕ) → j < i → RefSource m n es (get_or nodes j 0) false

module _ {n m : ℕ} {es nodes : List ℕ} {c i : ℕ} (S : SeekingSource n m es nodes c i) where
  pub seeking-found : {vs : List ℕ} {s x : ℕ} {t : Bool} → Below nodes c n → i < c → RefSource m n es (get_or nodes i 0) t → t ≡ true → x
      ≡ get_or vs (2 * get_or nodes i 0 + 1) 0 → Eliminates n m es vs nodes c s (eqb x s)
  seeking-found {vs} {s} {x} B h r t q = record {
    is = λ k p W. let v = get_or nodes i 0 in
        ap (λ (y : ℕ). eqb y s) (q ∙ sym (ap length (seq-at k n m es vs p v (B.at i h)) ∙ part-long p _ _ (W.at v (B.at i h))))
        ∙ sym (found_from (graph_in k n m es vs p) s 0 c (λ (j : ℕ). get_or nodes j 0) i h (λ j b. rw zero-add (sym ((S.none j b).is k vs p)))
        (rw zero-add (sym (r.is k vs p) ∙ t))
        ∙ ap (λ (y : ℕ). eqb (length (vertex_sequence (graph_in k n m es vs p) (get_or nodes y 0))) s) (zero-add i));
  }

  pub seeking-end : {vs : List ℕ} {s : ℕ} → c ≤ i → Eliminates n m es vs nodes c s false
  seeking-end {vs} {s} h = record {
    is = λ k p W. sym (none_from (graph_in k n m es vs p) s 0 c (λ (j : ℕ). get_or nodes j 0) (λ j b.
        rw zero-add (sym ((S.none j (omega (arith, S.high))).is k vs p))));
  }

pub source-no : {m n : ℕ} {es : List ℕ} {v : ℕ} {t : Bool} → RefSource m n es v t → t ≡ false → RefSource m n es v false
source-no r q = record { is = λ k vs p. sym q ∙ r.is k vs p }

-- ---- the definition

non-empty : (l : List ℕ) → non_empty l ≡ ltb 0 (length l)
unfolding non_empty
non-empty [] = refl
non-empty (x ∷ l) = sym (lt-ltb 0 (suc (length l)) (omega arith))

drop-none : (l : List (List ℕ)) → map (drop 0) l ≡ l
drop-none [] = refl
drop-none (x ∷ l) = ap (λ (r : List (List ℕ)). x ∷ r) (drop-none l)

and_one : (b : Bool) → b && true ≡ b
and_one true = refl
and_one false = refl

-- a test that implies another fails where that fails
all_weaker : (p q : ℕ → Bool) (l : List ℕ) → ((x : ℕ) → p x ≡ true → q x ≡ true) → all_of q l ≡ false → all_of p l ≡ false
unfolding all_of
all_weaker p q [] h t = clash refl t
all_weaker p q (x ∷ l) h t = by_test (p x)
    (λ u. rw (u, all_of) (all_weaker p q l h (rw (h x u, all_of) at t)))
    (λ u. rw (u, all_of))

module _ {n m : ℕ} {es vs p heads nexts nodes : List ℕ} {c : ℕ} (T : SplitTestable n m es vs p heads nexts nodes c) where
  pub parts : 2 ≤ c → Parts n vs p nodes c
  parts h = record { vs-room = T.vs-room; within = T.pool; room = T.below.room; below = T.below.at; some = omega arith }

  module _ (k bottom : ℕ) where
    abbrev g : Graph
    g = graph_in k n m es vs p

    abbrev prevs : List ℕ
    prevs = nums_in c nodes

    -- the three tests of a predecessor
    abbrev apart : ℕ → Bool
    apart v = not (eqb v bottom) && (eqb (out_degree g v) 1 && not (elem_of v (outgoing_nodes g bottom)))

    -- the definition's five tests but the last
    abbrev several : Bool
    several = ltb 1 (length prevs)

    abbrev alone : Bool
    alone = all_of apart prevs

    abbrev shares : Bool
    shares = non_empty (suffix_of g prevs)

    abbrev stays : Bool
    stays = not (would_eliminate_ref_source g (length (suffix_of g prevs)) prevs)

    few : c < 2 → is_split g bottom prevs (suffix_of g prevs) ≡ false
    unfolding is_split
    few h = let f : ltb 1 (length prevs) ≡ false = rw (length-tab c (λ (i : ℕ). get_or nodes i 0)) (le-ltb 1 c (omega arith)) in and-no-left _ f

    branching : all_of (one_out m es) prevs ≡ false → is_split g bottom prevs (suffix_of g prevs) ≡ false
    unfolding is_split
    branching t = and-no-right several (and-no-left _ (all_weaker apart (one_out m es) prevs one t))
      where
        one : (v : ℕ) → apart v ≡ true → one_out m es v ≡ true
        one v u =
            let z = and_split (not (eqb v bottom)) (eqb (out_degree g v) 1 && not (elem_of v (outgoing_nodes g bottom))) u in
            let w = and_split (eqb (out_degree g v) 1) (not (elem_of v (outgoing_nodes g bottom))) z.1 in
            ap (λ (x : ℕ). eqb x 1) (sym (out-degree-is k n m es vs p v)) ∙ w.0

    module _ {s : ℕ} (S : Suffix vs p nodes 0 c s) (two : 2 ≤ c) where
      first_below : get_or nodes 0 0 < n
      first_below = T.below.at 0 (omega arith)

      pub suffix-is : suffix_of g prevs ≡ part p (start_at vs nodes 0 + len_at vs nodes 0 - s) s
      suffix-is =
          ap common_suffix (map-tab (vertex_sequence g) c (λ (i : ℕ). get_or nodes i 0)
          ∙ tab-ext c (λ (i : ℕ). vertex_sequence g (get_or nodes i 0)) (λ (i : ℕ). seq_in vs p (get_or nodes i 0)) (λ i b.
          seq-at k n m es vs p (get_or nodes i 0) (T.below.at i b))
          ∙ sym (drop-none (seqs_at vs p nodes c)))
          ∙ S.is

      pub suffix-long : length (suffix_of g prevs) ≡ s
      suffix-long = ap length suffix-is ∙ part-long p (start_at vs nodes 0 + len_at vs nodes 0 - s) s
          (omega (arith, S.all 0 (omega arith), T.pool.at (get_or nodes 0 0) first_below))

      empty : s ≡ 0 → is_split g bottom prevs (suffix_of g prevs) ≡ false
      unfolding is_split
      empty z = and-no-right several (and-no-right alone (and-no-left _ (non-empty (suffix_of g prevs) ∙ ap (ltb 0) suffix-long ∙ le-ltb 0 s (omega arith))))

      module _ {e : Bool} (E : Eliminates n m es vs nodes c s e) where
        would-be : would_eliminate_ref_source g (length (suffix_of g prevs)) prevs ≡ e
        would-be = ap (λ (x : ℕ). would_eliminate_ref_source g x prevs) suffix-long ∙ sym (E.is k p T.pool)

        eliminates : e ≡ true → is_split g bottom prevs (suffix_of g prevs) ≡ false
        unfolding is_split
        eliminates t = and-no-right several (and-no-right alone (and-no-right shares (and-no-left _ (ap not (would-be ∙ t)))))

        long-is : (v : ℕ) → Memᴰ v prevs → eqb (length (vertex_sequence g v)) (length (suffix_of g prevs)) ≡ is_long vs s v
        long-is v d =
            let z = of-mem-tab c (λ (i : ℕ). get_or nodes i 0) d in
            let b : v < n = rw z.2 (T.below.at z.0 z.1) in
            λ i. eqb ((ap length (seq-at k n m es vs p v b) ∙ part-long p _ _ (T.pool.at v b)) i) (suffix-long i)

        all-long-is : all_of (λ (v : ℕ). eqb (length (vertex_sequence g v)) (length (suffix_of g prevs))) prevs ≡ all_of (is_long vs s) prevs
        all-long-is = all_of-same _ (is_long vs s) prevs long-is

        just : all_of (is_long vs s) prevs ≡ true → is_split g bottom prevs (suffix_of g prevs) ≡ false
        unfolding is_split
        just t = and-no-right several (and-no-right alone (and-no-right shares (and-no-right stays (ap not (all-long-is ∙ t)))))

        passes : BeforeBottom g bottom prevs → all_of (one_out m es) prevs ≡ true → 0 < s → e ≡ false → all_of (is_long vs s) prevs ≡ false
            → is_split g bottom prevs (suffix_of g prevs) ≡ true
        unfolding is_split
        passes B o z t l =
            and-true several _ (rw (length-tab c (λ (i : ℕ). get_or nodes i 0)) (lt-ltb 1 c (omega arith)))
            (and-true alone _ (all_of-same apart (one_out m es) prevs each ∙ o)
            (and-true shares _ (non-empty (suffix_of g prevs) ∙ ap (ltb 0) suffix-long ∙ lt-ltb 0 s z)
            (and-true stays _ (ap not (would-be ∙ t)) (ap not (all-long-is ∙ l)))))
          where
            each : (v : ℕ) → Memᴰ v prevs → apart v ≡ one_out m es v
            each v d = rw (ne_eqb v bottom (B.other v d), B.not_behind v d, out-degree-is k n m es vs p v) (and_one (one_out m es v))

  none-split : ((k bottom : ℕ) → is_split (graph_in k n m es vs p) bottom (nums_in c nodes) (suffix_of (graph_in k n m es vs p) (nums_in c nodes))
      ≡ false) → Splits n m es vs p nodes c None
  unfolding given
  none-split h = record {
    is = λ k bottom before. rw (h k bottom);
    by = λ s e. absurd (let z : ◌≡◌ {A = ℕ} 0 1 = cc in omega arith);
  }

  pub split-few : c < 2 → Splits n m es vs p nodes c None
  split-few h = none-split (λ k b. few k b h)

  pub split-branching : all_of (one_out m es) (nums_in c nodes) ≡ false → Splits n m es vs p nodes c None
  split-branching t = none-split (λ k b. branching k b t)

  module _ (two : 2 ≤ c) {s : ℕ} (S : Suffix vs p nodes 0 c s) where
    pub split-empty : s ≡ 0 → Splits n m es vs p nodes c None
    split-empty z = none-split (λ k b. empty k b S two z)

    module _ {e : Bool} (E : Eliminates n m es vs nodes c s e) where
      pub split-eliminates : e ≡ true → Splits n m es vs p nodes c None
      split-eliminates t = none-split (λ k b. eliminates k b S two E t)

      pub split-just : all_of (is_long vs s) (nums_in c nodes) ≡ true → Splits n m es vs p nodes c None
      split-just t = none-split (λ k b. just k b S two E t)

      pub split_by : (s ≡ 0 → ⊥) → all_of (one_out m es) (nums_in c nodes) ≡ true → e ≡ false → all_of (is_long vs s) (nums_in c nodes) ≡ false
          → Splits n m es vs p nodes c (Some s)
      unfolding given
      split_by z o t l = record {
        is = λ k b before. rw (passes k b S two E before o (omega (arith, z)) t l) (ap some (sym (suffix-long k b S two)));
        by = λ s' q. subst (λ (x : ℕ). SplitBy m es vs p nodes c x) (cc) record {
          suffix = S;
          several = two;
          single = λ i b. by_test (one_out m es (get_or nodes i 0)) (λ u. u) (λ u. clash o (all_of-no (one_out m es) c (λ (j : ℕ). get_or nodes j 0) i b u));
        };
      }
