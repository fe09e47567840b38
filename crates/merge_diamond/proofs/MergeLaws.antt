-- The answers are the definitions'. Assumes nothing.
use mathlib.Core.Path.{◌≡◌, refl, sym, ap, ◌∙◌, subst}
use mathlib.Core.Bool.{Bool, true, false, ◌&&◌, ◌||◌, true≢false}
use mathlib.Core.Option.{Option, none, some}
use mathlib.Core.List.{List, [], ◌∷◌, map}
use Prim.Native.Nat.{ℕ, ◌+◌, ◌*◌, ◌≤◌, ◌<◌}
use native.Mathlib.Omega.{arith}
use lib.ListN.{length, get_or}
use lib.Dec.{eqb, ltb, leb}
use borrow.Author.Tests.{le-ltb, ltb-true, eqb-true, le-leb, lt-leb}
use Rattle.defs.specs.Lists.{head_or, all_of}
use Rattle.defs.specs.SeqGraph.{Graph, Change, outgoing_nodes, out_degree, in_degree, apply_change}
use Rattle.defs.specs.Rewrites.{non_empty, is_diamond, bottom_of, shared_prefix, shared_suffix, merges_diamond, diamond_change, try_merge_diamond}
use Rattle.defs.specs.Rewrites.{is_tails, merges_tails, tails_change, try_merge_tails, split_and_update}
use Rattle.laws.proofs.ListLaws.{and_split, given_yes, given-no}
use Rattle.laws.proofs.Edges.{all_of-mem}
use Rattle.laws.proofs.Diamonds.{non_empty-yes}
use Rattle.tabs.proofs.Tabs.{length-tab}
use Rattle.tabs.proofs.ListTabs.{mem-tab, head-tab}
use Rattle.store.specs.Store.{nums_in}
use Rattle.index.specs.Index.{edge_end, incident_edges, Indexed}
use Rattle.index.proofs.AdjLaws.{at_head, at-step, at-end}
use Rattle.index.proofs.IndexLaws.{outgoing-is, in-degree-is, pair-first}
use Rattle.memory.specs.Memory.{graph_of, Holds, Left}
use Rattle.memory.specs.declared.Held.{Held}
use Rattle.shared.specs.Shared.{Prefix, Suffix}
use Rattle.diamond.specs.Diamond.{Diamond, Tails}
use Rattle.split_and_update.specs.Split.{prefix_at, suffix_at, bottom_if, update_change, Splittable, SplitDone}
use Rattle.split_and_update.proofs.PushLaws.{non_empty-no}
use Rattle.std.specs.Prelude.{Some, None}
use Rattle.merge_diamond.proofs.GrownLaws.{GraphGrown, diamond-grown, tails-grown}
use Rattle.merge_diamond.proofs.FollowLaws.{Follows, nodes-are, bottom-below, length-prefix, length-suffix, prefix-is, suffix-is, splittable}

-- ---- the first edge out of v

module _ {m n : ℕ} {es heads nexts : List ℕ} (I : Indexed m n es heads nexts) {v : ℕ} (b : v < n) where
  head-is : get_or heads (2 * v) 0 ≡ get_or heads (2 * v + 0) 0
  head-is = pair-first heads v

  pub follower-there : {e : ℕ} → e ≡ get_or heads (2 * v) 0 → e < m → get_or es (4 * e + 1) 0 ≡ head_or 0 (map (edge_end 1 es) (incident_edges (edge_end 0 es) m v))
  unfolding head_or
  follower-there {e} q k =
      let z : e ≡ get_or heads (2 * v + 0) 0 = q ∙ head-is in
      let J = I.index 0 (omega arith) in
      let k' : get_or heads (2 * v + 0) 0 < m = omega arith in
      ap (λ (x : ℕ). get_or es (4 * x + 1) 0) z
      ∙ sym (ap (λ (l : List ℕ). head_or 0 (map (edge_end 1 es) l)) (at_head (edge_end 0 es) m n _ _ v J b
      ∙ at-step (edge_end 0 es) m n _ _ v (get_or heads (2 * v + 0) 0) J k' ((J.heads v b).hit k')))

  pub follower-none : {e : ℕ} → e ≡ get_or heads (2 * v) 0 → m ≤ e → 0 ≡ head_or 0 (map (edge_end 1 es) (incident_edges (edge_end 0 es) m v))
  unfolding head_or
  follower-none {e} q k =
      let z : e ≡ get_or heads (2 * v + 0) 0 = q ∙ head-is in
      let J = I.index 0 (omega arith) in
      sym (ap (λ (l : List ℕ). head_or 0 (map (edge_end 1 es) l)) (at_head (edge_end 0 es) m n _ _ v J b
      ∙ at-end (edge_end 0 es) m v (get_or heads (2 * v + 0) 0) (omega arith)))

-- ---- what is left in the slices

pub left-no : {o : Option Graph} {es vs p heads nexts : List ℕ} → o ≡ none → Left o es vs p heads nexts None es vs p
left-no q = record {
  no = λ t. q;
  same-es = λ t. refl;
  same-vs = λ t. refl;
  same-p = λ t. refl;
  yes = λ h t. absurd cc;
  holds = λ h t. absurd cc;
}

left-yes : {o : Option Graph} {h : Held} {es vs p heads nexts nodes : List ℕ} {c top bottom : ℕ} {ends : Bool} {x y : ℕ} {r : Held} {es' vs' : List ℕ}
    → o ≡ some (apply_change (graph_of h es vs p) (update_change (graph_of h es vs p) top ends bottom vs p nodes c x y))
    → GraphGrown (graph_of h es vs p) (update_change (graph_of h es vs p) top ends bottom vs p nodes c x y)
    (apply_change (graph_of h es vs p) (update_change (graph_of h es vs p) top ends bottom vs p nodes c x y)) heads nexts
    → Holds h es vs p heads nexts → SplitDone h es vs p nodes c top bottom ends x y r es' vs' → Left o es vs p heads nexts (Some r) es' vs' p
left-yes {p = p} {heads = heads} {nexts} {r = r} {es' = es'} {vs' = vs'} q G H D = record {
  no = λ t. absurd cc;
  same-es = λ t. absurd cc;
  same-vs = λ t. absurd cc;
  same-p = λ t. refl;
  yes = λ k t. let e : r ≡ k = cc in q ∙ ap some (sym D.is ∙ ap (λ (held : Held). graph_of held es' vs' p) e);
  holds = λ k t. let e : r ≡ k = cc in subst (λ (held : Held). Holds held es' vs' p heads nexts) e
      record { fit = rw D.is G.fit; within = D.within; used-room = omega (arith, D.used, H.used-room) };
}

-- ---- the definitions, with the parts named

module _ (g : Graph) (top : ℕ) (mids : List ℕ) (q : mids ≡ outgoing_nodes g top) where
  diamond-not : is_diamond g mids (bottom_of g mids) ≡ false → try_merge_diamond g top ≡ none
  unfolding try_merge_diamond merges_diamond
  diamond-not t = given-no _ _ (rw (← q, t))

  tails-not : (least : ℕ) → is_tails g mids ≡ false → try_merge_tails least g top ≡ none
  unfolding try_merge_tails merges_tails
  tails-not least t = given-no _ _ (rw (← q, t))

  module _ (pre suf : List ℕ) (a : shared_prefix g mids ≡ pre) (b : shared_suffix g mids ≡ suf) where
    merges-is : merges_diamond g top ≡ (is_diamond g mids (bottom_of g mids) && (non_empty pre || non_empty suf))
    unfolding merges_diamond
    merges-is = rw (← q, a, b) refl

    change-is : diamond_change g top ≡ split_and_update g top (some (bottom_of g mids)) mids pre suf
    unfolding diamond_change
    change-is = rw (← q, a, b) refl

    merges-tails : (least : ℕ) → merges_tails least g top ≡ (is_tails g mids && leb least (length suf))
    unfolding merges_tails
    merges-tails least = rw (← q, b) refl

    tails-is : tails_change g top ≡ split_and_update g top none mids pre suf
    unfolding tails_change
    tails-is = rw (← q, a, b) refl

few : (g : Graph) (l : List ℕ) (b : ℕ) → length l < 2 → is_diamond g l b ≡ false
unfolding is_diamond
few g l b h = rw (le-ltb 1 (length l) (omega arith))

or-none : (x y : List ℕ) → length x + length y ≡ 0 → (non_empty x || non_empty y) ≡ false
or-none x y h = rw (non_empty-no x (omega arith), non_empty-no y (omega arith))

or_some : (x y : List ℕ) → 0 < length x + length y → (non_empty x || non_empty y) ≡ true
unfolding non_empty
or_some [] y h = non_empty-yes y (omega arith)
or_some (z ∷ x) y h = refl

module _ {h : Held} {es vs p heads nexts nodes mp : List ℕ} {top c : ℕ} (F : Follows h es vs p heads nexts nodes mp top c) where
  abbrev g : Graph
  g = graph_of h es vs p

  abbrev mids : List ℕ
  mids = nums_in c nodes

  count : length mids ≡ c
  count = length-tab c (λ (i : ℕ). get_or nodes i 0)

  -- ---- diamond

  pub few-left : c < 2 → Left (try_merge_diamond g top) es vs p heads nexts None es vs p
  few-left b = left-no (diamond-not g top mids (nodes-are F) (few g mids (bottom_of g mids) (omega (arith, count))))

  module _ {b : ℕ} {d : Bool} (s : 2 ≤ c) (q : b ≡ head_or 0 (map (edge_end 1 es) (incident_edges (edge_end 0 es) h.m (get_or nodes 0 0)))) (D :
      Diamond h.m h.n es nodes c b d) where
    bottom-is : b ≡ bottom_of g mids
    unfolding bottom_of
    bottom-is = q ∙ sym (ap (head_or 0) (ap (outgoing_nodes g) (head-tab c (λ (i : ℕ). get_or nodes i 0) (omega arith))
        ∙ outgoing-is h.k.0 h.n h.m es vs p (get_or nodes 0 0)))

    diamond-is : is_diamond g mids (bottom_of g mids) ≡ d
    diamond-is = ap (is_diamond g mids) (sym bottom-is) ∙ sym (D.is h.k.0 vs p)

    pub other-left : d ≡ false → Left (try_merge_diamond g top) es vs p heads nexts None es vs p
    other-left t = left-no (diamond-not g top mids (nodes-are F) (diamond-is ∙ t))

    one : d ≡ true → (i : ℕ) → i < c → length (incident_edges (edge_end 1 es) h.m (get_or nodes i 0)) ≡ 1
    unfolding is_diamond
    one t i k =
        let a = and_split (ltb 1 (length mids)) _ (sym (D.is h.k.0 vs p) ∙ t) in
        let e = and_split (all_of (λ v. eqb (in_degree g v) 1 && (ltb 0 (out_degree g v) && all_of (eqb b) (outgoing_nodes g v))) mids) _ a.1 in
        let x = and_split (eqb (in_degree g (get_or nodes i 0)) 1) _
        (all_of-mem (λ v. eqb (in_degree g v) 1 && (ltb 0 (out_degree g v) && all_of (eqb b) (outgoing_nodes g v))) mids e.0
        (mem-tab c (λ (j : ℕ). get_or nodes j 0) i k)) in
        sym (in-degree-is h.k.0 h.n h.m es vs p (get_or nodes i 0)) ∙ eqb-true _ _ x.0

    module _ {x y : ℕ} (X : Prefix vs p nodes c x) (Y : Suffix vs p nodes x c y) where
      s' : 1 ≤ c
      s' = omega arith

      abbrev pre : List ℕ
      pre = prefix_at vs p nodes x

      abbrev suf : List ℕ
      suf = suffix_at vs p nodes y

      merges : merges_diamond g top ≡ (d && (non_empty pre || non_empty suf))
      merges = merges-is g top mids (nodes-are F) pre suf (prefix-is F s' X Y) (suffix-is F s' X Y)
          ∙ ap (λ (z : Bool). z && (non_empty pre || non_empty suf)) diamond-is

      pub unshared-left : d ≡ true → x + y ≡ 0 → Left (try_merge_diamond g top) es vs p heads nexts None es vs p
      unfolding try_merge_diamond
      unshared-left t z = left-no (given-no _ _ (merges ∙ rw (t, or-none pre suf (omega (arith, length-prefix F s' X Y, length-suffix F s' X Y)))))

      abbrev C : Change
      C = update_change g top true b vs p nodes c x y

      change : diamond_change g top ≡ C
      unfolding bottom_if
      change = change-is g top mids (nodes-are F) pre suf (prefix-is F s' X Y) (suffix-is F s' X Y)
          ∙ ap (λ (z : ℕ). split_and_update g top (some z) mids pre suf) (sym bottom-is)

      module _ (t : d ≡ true) (z : 0 < x + y) where
        did : try_merge_diamond g top ≡ some (apply_change g C)
        unfolding try_merge_diamond
        did = given_yes _ _ (merges ∙ rw (t, or_some pre suf (omega (arith, length-prefix F s' X Y, length-suffix F s' X Y))))
            ∙ ap (λ (k : Change). some (apply_change g k)) change

        grown : GraphGrown g C (apply_change g C) heads nexts
        grown = subst (λ (k : Change). GraphGrown g k (apply_change g C) heads nexts) change (diamond-grown F.holds.fit (apply_change g C) top did)

        pub diamond-ready : Splittable h es vs p heads nodes c mp top b true x y
        diamond-ready = splittable F s' X Y b true (apply_change g C) (omega (arith, q, bottom-below F (get_or nodes 0 0))) (λ e.
            absurd (true≢false e)) z (one t) grown

        pub diamond-left : {r : Held} {es' vs' : List ℕ} → SplitDone h es vs p nodes c top b true x y r es' vs'
            → Left (try_merge_diamond g top) es vs p heads nexts (Some r) es' vs' p
        diamond-left S = left-yes did grown F.holds S

  -- ---- tails

  module _ {d : Bool} (D : Tails h.m h.n es nodes c d) (least : ℕ) where
    tails-are : is_tails g mids ≡ d
    tails-are = sym (D.is h.k.0 vs p)

    pub no-tails-left : d ≡ false → Left (try_merge_tails least g top) es vs p heads nexts None es vs p
    no-tails-left t = left-no (tails-not g top mids (nodes-are F) least (tails-are ∙ t))

    pub two : d ≡ true → 2 ≤ c
    unfolding is_tails
    two t = let a = and_split (ltb 1 (length mids)) _ (tails-are ∙ t) in omega (arith, ltb-true 1 (length mids) a.0, count)

    tail-one : d ≡ true → (i : ℕ) → i < c → length (incident_edges (edge_end 1 es) h.m (get_or nodes i 0)) ≡ 1
    unfolding is_tails
    tail-one t i k =
        let a = and_split (ltb 1 (length mids)) _ (tails-are ∙ t) in
        let x = and_split (eqb (out_degree g (get_or nodes i 0)) 0) _ (all_of-mem (λ v. eqb (out_degree g v) 0 && eqb (in_degree g v) 1) mids
        a.1 (mem-tab c (λ (j : ℕ). get_or nodes j 0) i k)) in
        sym (in-degree-is h.k.0 h.n h.m es vs p (get_or nodes i 0)) ∙ eqb-true _ _ x.1

    module _ {x y : ℕ} (t : d ≡ true) (X : Prefix vs p nodes c x) (Y : Suffix vs p nodes x c y) where
      s'' : 1 ≤ c
      s'' = omega (arith, two t)

      abbrev tail-pre : List ℕ
      tail-pre = prefix_at vs p nodes x

      abbrev tail-suf : List ℕ
      tail-suf = suffix_at vs p nodes y

      merges-t : merges_tails least g top ≡ leb least y
      merges-t = merges-tails g top mids (nodes-are F) tail-pre tail-suf (prefix-is F s'' X Y) (suffix-is F s'' X Y) least
          ∙ rw (tails-are, t, length-suffix F s'' X Y) refl

      pub short-left : y < least → Left (try_merge_tails least g top) es vs p heads nexts None es vs p
      unfolding try_merge_tails
      short-left b = left-no (given-no _ _ (merges-t ∙ lt-leb least y b))

      abbrev C-t : Change
      C-t = update_change g top false 0 vs p nodes c x y

      change-t : tails_change g top ≡ C-t
      unfolding bottom_if
      change-t = tails-is g top mids (nodes-are F) tail-pre tail-suf (prefix-is F s'' X Y) (suffix-is F s'' X Y)

      module _ (pos : 3 < least) (b : least ≤ y) where
        did-t : try_merge_tails least g top ≡ some (apply_change g C-t)
        unfolding try_merge_tails
        did-t = given_yes _ _ (merges-t ∙ le-leb least y b) ∙ ap (λ (k : Change). some (apply_change g k)) change-t

        grown-t : GraphGrown g C-t (apply_change g C-t) heads nexts
        grown-t = subst (λ (k : Change). GraphGrown g k (apply_change g C-t) heads nexts) change-t
            (tails-grown least pos F.holds.fit (apply_change g C-t) top did-t)

        pub tails-ready : Splittable h es vs p heads nodes c mp top 0 false x y
        tails-ready = splittable F s'' X Y 0 false (apply_change g C-t) (omega (arith, F.top-old)) (λ e. refl) (omega arith) (tail-one t) grown-t

        pub tails-left : {r : Held} {es' vs' : List ℕ} → SplitDone h es vs p nodes c top 0 false x y r es' vs'
            → Left (try_merge_tails least g top) es vs p heads nexts (Some r) es' vs' p
        tails-left S = left-yes did-t grown-t F.holds S
