-- Diamonds and tails, from the tests of their definition.
-- Assumes nothing.
use Prim.Native.Nat.{ℕ, ◌+◌, ◌/◌, ◌≤◌, ◌<◌}
use native.Mathlib.Omega.{arith}
use mathlib.Core.Path.{◌≡◌, refl, sym, ap, ◌∙◌}
use mathlib.Core.Logic.{◌⊎◌, inl, inr}
use mathlib.Core.Bool.{Bool, true, false, not, ◌&&◌, ◌||◌}
use mathlib.Core.Option.{Option, none, some}
use mathlib.Core.List.Memᴰ
use mathlib.Core.List.{List, [], ◌∷◌, ◌++◌, map, Memᴰ}
use lib.Dec.{eqb, ltb, leb}
use lib.ListN.{length, get_or, length-map, length-append, drop}
use borrow.Author.Tests.{eqb-true, eq-eqb, ltb-true, leb-true, not-true}
use Rattle.defs.specs.Lists.{keep_if, head_or, all_of, bit, common_prefix, common_suffix}
use Rattle.defs.specs.SeqGraph.{Edge, Graph, node_count, vertex_sequence, edges_into, edges_from, outgoing_nodes, out_degree, in_degree, Change, EdgeData}
use Rattle.defs.specs.SeqGraph.{with_additions, apply_change}
use Rattle.defs.specs.Rewrites.{MidPlan, mid_plan, has_remaining, non_empty, prefix_to_suffix, is_none, only_if, split_and_update_with}
use Rattle.defs.specs.Rewrites.{split_and_update, is_diamond, try_merge_diamond, is_tails, try_merge_tails}
use Rattle.defs.specs.Strings.{HasEdge}
use Rattle.laws.proofs.SplitForms.{split_of, diamond-parts, tails-parts}
use Rattle.laws.proofs.Walks.{Pt, start, at, stop, Go, by_test}
use Rattle.laws.proofs.ListLaws.{clash, given-some, and_split, mem-keep_if, of-keep_if, or_cases, mem-at, at_mem}
use Rattle.laws.proofs.Nets.{Ranks, net_of, Bounded}
use Rattle.laws.proofs.Edges.{all_of-mem, of-edges_from, in-edges_into, in-edges_from, singleton, nonempty}
use Rattle.laws.proofs.Counts.{total, Distinct, Single, total-same, total-add, total-append, total-one, total-le, heft, length-heft, total-times, length_both}
use Rattle.laws.proofs.MergeCounts.{and_no}
use Rattle.laws.proofs.SplitCounts.{total-map, total-keep_if, loads, edges-split, places-split, total-const}
use Rattle.laws.proofs.SharedLaws.{cut}
use Rattle.laws.proofs.SplitWith as S
use Rattle.laws.proofs.SplitWith.{exit_of}
use Rattle.laws.proofs.Sound.{Sound, Keeps}
use Rattle.laws.proofs.Branching.{ends, sinks, branching, branching-is}
use Rattle.laws.proofs.Counts.{heft-full}

pub non_empty-yes : (l : List ℕ) → 0 < length l → non_empty l ≡ true
unfolding non_empty
non_empty-yes [] h = absurd (omega arith)
non_empty-yes (x ∷ l) h = refl

pub empty-is : (l : List ℕ) → non_empty l ≡ false → l ≡ []
unfolding non_empty
empty-is [] e = refl
empty-is (x ∷ l) e = clash refl e

module _ (g : Graph) where
  pub mem-outs : (u v : ℕ) → HasEdge g u v → Memᴰ v (outgoing_nodes g u)
  unfolding outgoing_nodes
  mem-outs u v (e, m, p, q) = rw q at (Memᴰ.map (λ (e : Edge). e.to) (in-edges_from g u e m p))

  pub of-mem-outs : (u v : ℕ) → Memᴰ v (outgoing_nodes g u) → HasEdge g u v
  unfolding outgoing_nodes
  of-mem-outs u v m =
      let r = Memᴰ.of_map (λ (e : Edge). e.to) (edges_from g u) m in
      let k = of-edges_from g u r.0 r.1 in
      (r.0, k.0, k.1, r.2)

  pub only-in : (u w v : ℕ) → in_degree g v ≡ 1 → HasEdge g u v → HasEdge g w v → u ≡ w
  unfolding in_degree
  only-in u w v d (e, m, p, q) (f, n, a, b) =
      sym p ∙ (ap (λ (x : Edge). x.from) (singleton (edges_into g v) d (in-edges_into g v e m q) (in-edges_into g v f n b)) ∙ a)

  pub some_out : (v : ℕ) → 0 < out_degree g v → (w : ℕ) × HasEdge g v w
  unfolding out_degree
  some_out v h = let r = nonempty (edges_from g v) h in let k = of-edges_from g v r.0 r.1 in (r.0.to, (r.0, k.0, k.1, refl))

  pub no-out : (v w : ℕ) → out_degree g v ≡ 0 → HasEdge g v w → ⊥
  unfolding out_degree
  no-out v w d (e, m, p, q) = none_in (edges_from g v) d (in-edges_from g v e m p)
    where
      none_in : (l : List Edge) → length l ≡ 0 → Memᴰ e l → ⊥
      none_in [] d m = Memᴰ.not-nil m
      none_in (x ∷ l) d m = omega arith

-- what the plans say of the middles
module _ (f : ℕ → MidPlan) (mids : List ℕ) where
  abbrev lefts : List MidPlan
  lefts = keep_if has_remaining (map f mids)

  abbrev others : List MidPlan
  others = keep_if (λ p. not (has_remaining p)) (map f mids)

  some-consumed : (l : List MidPlan) {p : MidPlan} → Memᴰ p l → (x : EdgeData) × (prefix_to_suffix l ≡ some x)
  unfolding prefix_to_suffix
  some-consumed [] m = absurd (Memᴰ.not-nil m)
  some-consumed (p ∷ ps) m = (_, refl)

  consumed-some : (l : List MidPlan) (x : EdgeData) → prefix_to_suffix l ≡ some x → (p : MidPlan) × Memᴰ p l
  unfolding prefix_to_suffix
  consumed-some [] x e = absurd (omega (arith, bad))
    where
      bad : ◌≡◌ {A = ℕ} 0 1
      bad = cc
  consumed-some (p ∷ ps) x e = (p, Memᴰ.head refl)

  pub left_at : (m : ℕ) → Memᴰ m mids → ((i : ℕ) × (i < length lefts) × (get_or (map (λ p. p.remaining) lefts) i [] ≡ (f m).remaining))
      ⊎ (((f m).remaining ≡ []) × (l : EdgeData) × (prefix_to_suffix others ≡ some l))
  unfolding has_remaining
  left_at m k = by_test (has_remaining (f m))
      (λ t. inl (let r = mem-at [] (Memᴰ.map (λ (p : MidPlan). p.remaining) (mem-keep_if has_remaining (Memᴰ.map f k) t)) in
      (r.0, rw (length-map lefts (λ (p : MidPlan). p.remaining)) at r.1, r.2)))
      (λ t. inr (let x = some-consumed others (mem-keep_if (λ p. not (has_remaining p)) (Memᴰ.map f k) (rw t)) in (empty-is (f m).remaining t, x.0, x.1)))

  pub of_left : (i : ℕ) → i < length lefts → (m : ℕ) × Memᴰ m mids × (get_or (map (λ p. p.remaining) lefts) i [] ≡ (f m).remaining)
  of_left i h =
      let a = Memᴰ.of_map (λ (p : MidPlan). p.remaining) lefts
      (at_mem [] (map (λ (p : MidPlan). p.remaining) lefts) i (rw (length-map lefts (λ (p : MidPlan). p.remaining)) h)) in
      let b = of-keep_if has_remaining (map f mids) a.1 in
      let d = Memᴰ.of_map f mids b.0 in
      (d.0, d.1, sym a.2 ∙ ap (λ (p : MidPlan). p.remaining) (sym d.2))

  pub of-gone : (l : EdgeData) → prefix_to_suffix others ≡ some l → (m : ℕ) × Memᴰ m mids × ((f m).remaining ≡ [])
  unfolding has_remaining
  of-gone l e =
      let a = consumed-some others l e in
      let b = of-keep_if (λ p. not (has_remaining p)) (map f mids) a.1 in
      let d = Memᴰ.of_map f mids b.0 in
      (d.0, d.1, empty-is (f d.0).remaining (ap has_remaining d.2 ∙ not-true (has_remaining a.0) b.1))

loads-le : (l : List MidPlan) → loads (prefix_to_suffix l) ≤ length l
unfolding loads prefix_to_suffix
loads-le [] = omega arith
loads-le (p ∷ ps) = omega arith

-- what both kinds have
module _ (g : Graph) (bounded : Bounded g) (r : ℕ → ℕ) (ranks : Ranks g r) (top : ℕ) (bottom : Option ℕ)
    (only_in : (m : ℕ) → Memᴰ m (outgoing_nodes g top) → in_degree g m ≡ 1) (two : 1 < length (outgoing_nodes g top))
    (exits : (m : ℕ) → Memᴰ m (outgoing_nodes g top) → Go (net_of g) (at m) (exit_of bottom)) (only_exit : (m : ℕ) (q : Pt)
    → Memᴰ m (outgoing_nodes g top) → Go (net_of g) (at m) q → q ≡ exit_of bottom)
    (wanted : List ℕ → List ℕ → Bool)
    (fuel_for : (p s : List ℕ) → wanted p s ≡ true → ((non_empty p ≡ true) ⊎ (non_empty s ≡ true)) × (non_empty s ≡ false → (b : ℕ) × (bottom ≡ some b)))
    (g' : Graph) (did : split_of g top bottom (outgoing_nodes g top) wanted ≡ some g') where
  abbrev mids : List ℕ
  mids = outgoing_nodes g top

  abbrev prefix : List ℕ
  prefix = common_prefix (map (vertex_sequence g) mids)

  abbrev suffix : List ℕ
  suffix = common_suffix (map (drop (length prefix)) (map (vertex_sequence g) mids))

  abbrev plan : ℕ → MidPlan
  plan = mid_plan g (length prefix) (length suffix)

  abbrev c : Change
  c = split_and_update g top bottom mids prefix suffix

  is-wanted : (wanted prefix suffix ≡ true) × (apply_change g c ≡ g')
  unfolding split_of
  is-wanted = given-some (wanted prefix suffix) (apply_change g c) g' did

  some-mid : (m : ℕ) × Memᴰ m mids
  some-mid = nonempty mids (omega arith)

  pub split-keeps : Keeps g g'
  unfolding split_and_update
  split-keeps = rw (← is-wanted.1)
      (S.split-keeps g bounded r ranks (non_empty prefix) (non_empty suffix) top bottom (keep_if has_remaining (map plan mids))
      (prefix_to_suffix (keep_if (λ p. not (has_remaining p)) (map plan mids))) prefix suffix mids
      (empty-is prefix) (λ e. let b = (fuel_for prefix suffix is-wanted.0).1 e in (empty-is suffix e, b.0, b.1))
      (fuel_for prefix suffix is-wanted.0).0
      (λ m. (plan m).remaining) (λ m k. cut g mids m k prefix suffix refl refl)
      (left_at plan mids) (of_left plan mids) (of-gone plan mids)
      (λ m k. of-mem-outs g top m k) (λ u m k h. only-in g u top m (only_in m k) h (of-mem-outs g top m k)) some-mid
      exits only_exit)

  -- counts
  abbrev pub lefts' : List MidPlan
  lefts' = keep_if has_remaining (map plan mids)

  abbrev pub others' : List MidPlan
  others' = keep_if (λ p. not (has_remaining p)) (map plan mids)

  cut_all : (m : ℕ) → Memᴰ m mids → vertex_sequence g m ≡ prefix ++ ((plan m).remaining ++ suffix)
  cut_all m k = cut g mids m k prefix suffix refl refl

  split-weight' : (f : List ℕ → ℕ) → Distinct mids → total f g'.verts + total (λ v. f (vertex_sequence g v)) mids ≡ total f g.verts + total f c.verts
  unfolding split_and_update
  split-weight' f d = rw (← is-wanted.1)
      (S.split-weight g bounded r ranks (non_empty prefix) (non_empty suffix) top bottom lefts' (prefix_to_suffix others') prefix suffix mids
      (empty-is prefix) (λ e. let b = (fuel_for prefix suffix is-wanted.0).1 e in (empty-is suffix e, b.0, b.1))
      (fuel_for prefix suffix is-wanted.0).0
      (λ m. (plan m).remaining) cut_all
      (left_at plan mids) (of_left plan mids) (of-gone plan mids)
      (λ m k. of-mem-outs g top m k) (λ u m k h. only-in g u top m (only_in m k) h (of-mem-outs g top m k)) some-mid
      exits only_exit f d)

  sum_left : total length (map (λ p. p.remaining) lefts') ≡ total (λ m. length (plan m).remaining) mids
  unfolding has_remaining
  sum_left =
      total-map length (λ (p : MidPlan). p.remaining) lefts'
      ∙ (total-keep_if (λ (p : MidPlan). length p.remaining) has_remaining (map plan mids) (λ p t. ap length (empty-is p.remaining t))
      ∙ total-map (λ (p : MidPlan). length p.remaining) plan mids)

  one-total : (l : List ℕ) → total length (only_if (non_empty l) (l ∷ [])) ≡ length l
  unfolding only_if non_empty total
  one-total [] = refl
  one-total (x ∷ l) = omega arith

  -- the bytes: for each middle but one a prefix and a suffix are saved
  pub bytes-split : Distinct mids → total length g'.verts + total (λ _. length prefix + length suffix) mids ≡ total length g.verts
      + (length prefix + length suffix)
  unfolding split_and_update split_and_update_with
  bytes-split d =
      let f : ℕ → ℕ = λ m. length (plan m).remaining in
      omega (
        arith,
        split-weight' length d,
        total-append length (only_if (non_empty prefix) (prefix ∷ [])) (only_if (non_empty suffix) (suffix ∷ []) ++ map (λ p. p.remaining) lefts'),
        total-append length (only_if (non_empty suffix) (suffix ∷ [])) (map (λ (p : MidPlan). p.remaining) lefts'),
        one-total prefix,
        one-total suffix,
        sum_left,
        total-same (λ m. length (vertex_sequence g m)) (λ m. (length prefix + length suffix) + f m) mids (λ m k.
            omega (
              arith,
              ap length (cut_all m k),
              length-append prefix ((plan m).remaining ++ suffix),
              length-append (plan m).remaining suffix,
            )),
        total-add (λ _. length prefix + length suffix) f mids,
      )

  -- the weights likewise; nothing new is empty
  heft-one : (l : List ℕ) → total heft (only_if (non_empty l) (l ∷ [])) ≡ length l
  unfolding only_if non_empty total heft
  heft-one [] = refl
  heft-one (x ∷ l) = omega arith

  heft-lefts : total heft (map (λ p. p.remaining) lefts') ≡ total length (map (λ p. p.remaining) lefts')
  unfolding has_remaining
  heft-lefts = total-same heft length (map (λ (p : MidPlan). p.remaining) lefts') (λ x m.
      let a = Memᴰ.of_map (λ (p : MidPlan). p.remaining) lefts' m in
      let b = of-keep_if has_remaining (map plan mids) a.1 in
      heft-full x (ap non_empty (sym a.2) ∙ b.1))

  pub heft-split : Distinct mids → total heft g'.verts + total (λ _. length prefix + length suffix) mids ≤ total heft g.verts
      + (length prefix + length suffix)
  unfolding split_and_update split_and_update_with
  heft-split d =
      let f : ℕ → ℕ = λ m. length (plan m).remaining in
      omega (
        arith,
        split-weight' heft d,
        total-append heft (only_if (non_empty prefix) (prefix ∷ [])) (only_if (non_empty suffix) (suffix ∷ []) ++ map (λ p. p.remaining) lefts'),
        total-append heft (only_if (non_empty suffix) (suffix ∷ [])) (map (λ (p : MidPlan). p.remaining) lefts'),
        heft-one prefix,
        heft-one suffix,
        heft-lefts,
        sum_left,
        total-le (λ m. (length prefix + length suffix) + f m) (λ m. heft (vertex_sequence g m)) mids (λ m k.
            omega (
              arith,
              length-heft (vertex_sequence g m),
              ap length (cut_all m k),
              length-append prefix ((plan m).remaining ++ suffix),
              length-append (plan m).remaining suffix,
            )),
        total-add (λ _. length prefix + length suffix) f mids,
      )

  split-order' : Distinct mids → node_count g' + length mids ≡ node_count g + (bit (non_empty prefix) + (bit (non_empty suffix) + length lefts'))
  unfolding split_and_update
  split-order' d = rw (← is-wanted.1)
      (S.split-order g bounded r ranks (non_empty prefix) (non_empty suffix) top bottom lefts' (prefix_to_suffix others') prefix suffix mids
      (empty-is prefix) (λ e. let b = (fuel_for prefix suffix is-wanted.0).1 e in (empty-is suffix e, b.0, b.1))
      (fuel_for prefix suffix is-wanted.0).0
      (λ m. (plan m).remaining) cut_all
      (left_at plan mids) (of_left plan mids) (of-gone plan mids)
      (λ m k. of-mem-outs g top m k) (λ u m k h. only-in g u top m (only_in m k) h (of-mem-outs g top m k)) some-mid
      exits only_exit d)

  pub split-sinks : Distinct mids → sinks g' + total (λ v. bit (ends g v)) mids ≤ sinks g + bit (is_none bottom)
  unfolding split_and_update
  split-sinks d = rw (← is-wanted.1)
      (S.sinks-split g bounded r ranks (non_empty prefix) (non_empty suffix) top bottom lefts' (prefix_to_suffix others') prefix suffix mids
      (empty-is prefix) (λ e. let b = (fuel_for prefix suffix is-wanted.0).1 e in (empty-is suffix e, b.0, b.1))
      (fuel_for prefix suffix is-wanted.0).0
      (λ m. (plan m).remaining) cut_all
      (left_at plan mids) (of_left plan mids) (of-gone plan mids)
      (λ m k. of-mem-outs g top m k) (λ u m k h. only-in g u top m (only_in m k) h (of-mem-outs g top m k)) some-mid
      exits only_exit d)

  abbrev pub Room : Change → Type 0
  Room d = (apply_change g d ≡ g') × (node_count (with_additions d g) ≤ node_count g' + node_count g)
      × (length (with_additions d g).edges ≤ length g'.edges + length g.edges)

  pub room_split : Distinct mids → Room c
  unfolding split_and_update
  room_split d =
      let z = S.split-room g bounded r ranks (non_empty prefix) (non_empty suffix) top bottom lefts' (prefix_to_suffix others') prefix suffix mids
      (empty-is prefix) (λ e. let b = (fuel_for prefix suffix is-wanted.0).1 e in (empty-is suffix e, b.0, b.1))
      (fuel_for prefix suffix is-wanted.0).0
      (λ m. (plan m).remaining) cut_all
      (left_at plan mids) (of_left plan mids) (of-gone plan mids)
      (λ m k. of-mem-outs g top m k) (λ u m k h. only-in g u top m (only_in m k) h (of-mem-outs g top m k)) some-mid
      exits only_exit d in
      (is-wanted.1, omega (arith, z.0, ap node_count is-wanted.1), omega (arith, z.1, ap (λ (x : Graph). length x.edges) is-wanted.1))

  -- each middle gives a new middle or joins the edge from prefix to suffix
  plans-are : length lefts' + loads (prefix_to_suffix others') ≤ length mids
  plans-are = omega (arith, length_both has_remaining (map plan mids), length-map mids plan, loads-le others')

  -- edges less vertices, by what the middles lead to
  pub surplus-split : Distinct mids → length g'.edges + node_count g + total (out_degree g) mids
      + bit (non_empty suffix) ≤ length g.edges + node_count g' + bit (non_empty suffix && not (is_none bottom)) + length mids
  unfolding split_and_update
  surplus-split d =
      omega (
        arith,
        edges-split (non_empty prefix) (non_empty suffix) g top bottom lefts' (prefix_to_suffix others') prefix suffix mids,
        ap (λ (x : Graph). length x.edges) is-wanted.1,
        places-split (non_empty prefix) (non_empty suffix) g top bottom lefts' (prefix_to_suffix others') prefix suffix mids d
            (λ e m a b. let h : HasEdge g e.from e.to = (e, m, refl, refl) in
            let i = only-in g e.from top e.to (only_in e.to b) h (of-mem-outs g top e.to b) in
            omega (arith, ranks top e.from (of-mem-outs g top e.from a), ap r i)),
        total-same (in_degree g) (λ _. 1) mids only_in,
        total-one mids,
        split-order' d,
        plans-are,
      )

-- a diamond
pub diamond-keeps : (g g' : Graph) (top : ℕ) → Sound g → try_merge_diamond g top ≡ some g' → Keeps g g'
unfolding is_diamond
diamond-keeps g g' top sound did =
    let mids = outgoing_nodes g top in
    let b = head_or 0 (outgoing_nodes g (head_or 0 mids)) in
    let h = diamond-parts g g' top did in
    let a = and_split (ltb 1 (length mids)) _ h.0 in
    let d = and_split (all_of (λ m. eqb (in_degree g m) 1 && (ltb 0 (out_degree g m) && all_of (eqb b) (outgoing_nodes g m))) mids) _ a.1 in
    let each : (m : ℕ) → Memᴰ m mids → (in_degree g m ≡ 1) × (0 < out_degree g m) × (all_of (eqb b) (outgoing_nodes g m) ≡ true) = λ m k.
    let x = and_split (eqb (in_degree g m) 1) _ (all_of-mem (λ m. eqb (in_degree g m) 1
    && (ltb 0 (out_degree g m) && all_of (eqb b) (outgoing_nodes g m))) mids d.0 k) in
    let y = and_split (ltb 0 (out_degree g m)) _ x.1 in
    (eqb-true _ _ x.0, ltb-true _ _ y.0, y.1) in
    let exit : (m v : ℕ) → Memᴰ m mids → HasEdge g m v → v ≡ b = λ m v k l.
    sym (eqb-true b v (all_of-mem (eqb b) (outgoing_nodes g m) (each m k).2 (mem-outs g m v l))) in
    split-keeps g sound.bounded sound.rank sound.ranks top (some b)
    (λ m k. (each m k).0) (ltb-true _ _ a.0)
    (λ m k. let o = some_out g m (each m k).1 in rw (exit m o.0 k o.1) at o.1)
    (λ m. elim [
      | start ↦ λ k l. absurd l
      | at v ↦ λ k l. ap at (exit m v k l)
      | stop ↦ λ k l. let o = some_out g m (each m k).1 in
          absurd (l.1 o.0 o.1)
    ])
    (λ p s. non_empty p || non_empty s) (λ p s t. (or_cases _ _ t, λ _. (b, refl)))
    g' h.1

pub tails-keeps : (least : ℕ) → 0 < least → (g g' : Graph) (top : ℕ) → Sound g → try_merge_tails least g top ≡ some g' → Keeps g g'
unfolding is_tails
tails-keeps least pos g g' top sound did =
    let mids = outgoing_nodes g top in
    let h = tails-parts least g g' top did in
    let a = and_split (ltb 1 (length mids)) _ h.0 in
    let each : (m : ℕ) → Memᴰ m mids → (out_degree g m ≡ 0) × (in_degree g m ≡ 1) = λ m k.
    let x = and_split (eqb (out_degree g m) 0) _ (all_of-mem (λ t. eqb (out_degree g t) 0 && eqb (in_degree g t) 1) mids a.1 k) in
    (eqb-true _ _ x.0, eqb-true _ _ x.1) in
    split-keeps g sound.bounded sound.rank sound.ranks top none
    (λ m k. (each m k).1) (ltb-true _ _ a.0)
    (λ m k. (let e = of-mem-outs g top m k in rw e.3 at (sound.bounded e.0 e.1).1, λ w l. no-out g m w (each m k).0 l))
    (λ m. elim [ start ↦ λ k l. absurd l | at v ↦ λ k l. absurd (no-out g m v (each m k).0 l) | stop ↦ λ k l. refl ])
    (λ p s. leb least (length s)) (λ p s t. let n = leb-true least (length s) t in (inr (non_empty-yes s (omega arith)), λ e. clash (non_empty-yes s (omega arith)) e))
    g' h.1

-- edges less vertices plus a quarter of the bytes
distinct-dsts : (es : List Edge) (v : ℕ) → Single es → Distinct (map (λ (e : Edge). e.to) (keep_if (λ e. eqb e.from v) es))
unfolding keep_if
distinct-dsts [] v h = tt
distinct-dsts (e ∷ es) v h =
    by_test (eqb e.from v)
    (λ t. rw t (
      λ m. let k = Memᴰ.of_map (λ (e : Edge). e.to) _ m in
          let j = of-keep_if (λ (e : Edge). eqb e.from v) es k.1 in
          h.0 (k.0, j.0, eqb-true _ _ j.1 ∙ sym (eqb-true _ _ t), k.2),
      distinct-dsts es v h.1,
    ))
    (λ t. rw t (distinct-dsts es v h.1))

pub distinct-outs : (g : Graph) (v : ℕ) → Single g.edges → Distinct (outgoing_nodes g v)
unfolding outgoing_nodes edges_from
distinct-outs g v h = distinct-dsts g.edges v h

module _ (least : ℕ) (pos : 3 < least) (g g' : Graph) (top : ℕ) (sound : Sound g) (once : Single g.edges) (did : try_merge_tails least g top ≡ some g') where
  abbrev tails : List ℕ
  tails = outgoing_nodes g top

  parts : (is_tails g tails ≡ true) × (split_of g top none tails (λ p s. leb least (length s)) ≡ some g')
  parts = tails-parts least g g' top did

  tests : (1 < length tails) × ((m : ℕ) → Memᴰ m tails → (out_degree g m ≡ 0) × (in_degree g m ≡ 1))
  unfolding is_tails
  tests =
      let a = and_split (ltb 1 (length tails)) _ parts.0 in (
        ltb-true _ _ a.0,
        λ m k.
            let x = and_split (eqb (out_degree g m) 0) _ (all_of-mem (λ t. eqb (out_degree g t) 0 && eqb (in_degree g t) 1) tails a.1 k) in
            (eqb-true _ _ x.0, eqb-true _ _ x.1),
      )

  exits : (m : ℕ) → Memᴰ m tails → Go (net_of g) (at m) stop
  exits m k = (let e = of-mem-outs g top m k in rw e.3 at (sound.bounded e.0 e.1).1, λ w l. no-out g m w (tests.1 m k).0 l)

  only_exit : (m : ℕ) (q : Pt) → Memᴰ m tails → Go (net_of g) (at m) q → q ≡ stop
  only_exit m start k l = absurd l
  only_exit m (at v) k l = absurd (no-out g m v (tests.1 m k).0 l)
  only_exit m stop k l = refl

  enough' : (p s : List ℕ) → leb least (length s) ≡ true → ((non_empty p ≡ true) ⊎ (non_empty s ≡ true))
      × (non_empty s ≡ false → (b : ℕ) × (◌≡◌ {A = Option ℕ} none (some b)))
  enough' p s t = let n = leb-true least (length s) t in (inr (non_empty-yes s (omega arith)), λ e. clash (non_empty-yes s (omega arith)) e)

  abbrev pre : List ℕ
  pre = prefix g sound.bounded sound.rank sound.ranks top none (λ m k. (tests.1 m k).1) tests.0 exits only_exit (λ p s.
      leb least (length s)) enough' g' parts.1

  abbrev suf : List ℕ
  suf = suffix g sound.bounded sound.rank sound.ranks top none (λ m k. (tests.1 m k).1) tests.0 exits only_exit (λ p s.
      leb least (length s)) enough' g' parts.1

  bytes-tails : total length g'.verts + total (λ _. length pre + length suf) tails ≡ total length g.verts + (length pre + length suf)
  bytes-tails = bytes-split g sound.bounded sound.rank sound.ranks top none (λ m k. (tests.1 m k).1) tests.0 exits only_exit
      (λ p s. leb least (length s)) enough' g' parts.1 (distinct-outs g top once)

  surplus-tails : length g'.edges + node_count g + total (out_degree g) tails + bit (non_empty suf) ≤ length g.edges + node_count g'
      + bit (non_empty suf && not (is_none none)) + length tails
  surplus-tails = surplus-split g sound.bounded sound.rank sound.ranks top none (λ m k. (tests.1 m k).1) tests.0 exits
      only_exit (λ p s. leb least (length s)) enough' g' parts.1 (distinct-outs g top once)

  long : least ≤ length suf
  long = leb-true least (length suf) (is-wanted g sound.bounded sound.rank sound.ranks top none (λ m k. (tests.1 m k).1)
      tests.0 exits only_exit (λ p s. leb least (length s)) enough' g' parts.1).0

  no-bottom : bit (non_empty suf && not (is_none none)) ≡ 0
  unfolding is_none
  no-bottom = and_no (non_empty suf) false refl

  one-suffix : bit (non_empty suf) ≡ 1
  unfolding bit
  one-suffix = rw (non_empty-yes suf (omega (arith, long)))

  pub tails-surplus : length g'.edges + node_count g + total length g'.verts / 4 ≤ length g.edges + node_count g' + total length g.verts / 4
  tails-surplus =
      omega (
        arith,
        bytes-tails,
        surplus-tails,
        no-bottom,
        one-suffix,
        tests.0,
        total-const (length pre + length suf) tails 4 (omega (arith, long)) (omega (arith, tests.0)),
        total-times 4 tails,
      )

  pub tails-bytes-fall : total length g'.verts < total length g.verts
  tails-bytes-fall = omega (
    arith,
    bytes-tails,
    total-const (length pre + length suf) tails 4 (omega (arith, long))
        (omega (arith, tests.0)),
    total-times 4 tails,
    tests.0,
  )

  pub tails-heft : total heft g'.verts < total heft g.verts
  tails-heft = omega (
    arith,
    heft-split g sound.bounded sound.rank sound.ranks top none (λ m k. (tests.1 m k).1) tests.0 exits only_exit (λ p s.
        leb least (length s)) enough' g' parts.1 (distinct-outs g top once),
    total-const (length pre + length suf) tails 4 (omega (arith, long)) (omega (arith, tests.0)),
    total-times 4 tails,
    tests.0,
  )

  all_end : (m : ℕ) → Memᴰ m tails → bit (ends g m) ≡ 1
  unfolding ends bit
  all_end m k = ap bit (eq-eqb (out_degree g m) 0 (tests.1 m k).0)

  none_out : total (out_degree g) tails ≡ 0
  none_out = omega (arith, total-same (out_degree g) (λ _. 0) tails (λ m k. (tests.1 m k).0), total-times 0 tails)

  is-none : bit (is_none none) ≡ 1
  unfolding is_none bit
  is-none = refl

  pub tails-branching : branching g' ≤ branching g
  tails-branching =
      omega (
        arith,
        branching-is g sound.bounded,
        branching-is g' (tails-keeps least (omega arith) g g' top sound did).sound.bounded,
        surplus-tails,
        no-bottom,
        one-suffix,
        none_out,
        split-sinks g sound.bounded sound.rank sound.ranks top none (λ m k. (tests.1 m k).1) tests.0 exits only_exit (λ p s.
            leb least (length s)) enough' g' parts.1 (distinct-outs g top once),
        total-same (λ v. bit (ends g v)) (λ _. 1) tails all_end,
        total-one tails,
        is-none,
      )

  pub tails-room : (d : Change) × (apply_change g d ≡ g') × (node_count (with_additions d g) ≤ node_count g' + node_count g)
      × (length (with_additions d g).edges ≤ length g'.edges + length g.edges)
  tails-room = let z = room_split g sound.bounded sound.rank sound.ranks top none (λ m k. (tests.1 m k).1) tests.0 exits
      only_exit (λ p s. leb least (length s)) enough' g' parts.1 (distinct-outs g top once) in (_, z.0, z.1, z.2)

pub or_long : (a b : List ℕ) → (non_empty a || non_empty b) ≡ true → 1 ≤ length a + length b
unfolding non_empty
or_long [] [] e = clash e refl
or_long [] (y ∷ b) e = omega arith
or_long (x ∷ a) b e = omega arith

-- a diamond's counts
module _ (g g' : Graph) (top : ℕ) (sound : Sound g) (once : Single g.edges) (did : try_merge_diamond g top ≡ some g') where
  abbrev midsᵈ : List ℕ
  midsᵈ = outgoing_nodes g top

  abbrev foot : ℕ
  foot = head_or 0 (outgoing_nodes g (head_or 0 midsᵈ))

  abbrev both : List ℕ → List ℕ → Bool
  both p s = non_empty p || non_empty s

  partsᵈ : (is_diamond g midsᵈ foot ≡ true) × (split_of g top (some foot) midsᵈ both ≡ some g')
  partsᵈ = diamond-parts g g' top did

  testsᵈ : (1 < length midsᵈ) × ((m : ℕ) → Memᴰ m midsᵈ → (in_degree g m ≡ 1) × (0 < out_degree g m) × (all_of (eqb foot) (outgoing_nodes g m) ≡ true))
  unfolding is_diamond
  testsᵈ =
      let a = and_split (ltb 1 (length midsᵈ)) _ partsᵈ.0 in
      let d = and_split (all_of (λ m. eqb (in_degree g m) 1 && (ltb 0 (out_degree g m) && all_of (eqb foot) (outgoing_nodes g m))) midsᵈ) _ a.1 in (
        ltb-true _ _ a.0,
        λ m k.
            let x = and_split (eqb (in_degree g m) 1) _ (all_of-mem (λ m. eqb (in_degree g m) 1
            && (ltb 0 (out_degree g m) && all_of (eqb foot) (outgoing_nodes g m))) midsᵈ d.0 k) in
            let y = and_split (ltb 0 (out_degree g m)) _ x.1 in
            (eqb-true _ _ x.0, ltb-true _ _ y.0, y.1),
      )

  exitᵈ : (m v : ℕ) → Memᴰ m midsᵈ → HasEdge g m v → v ≡ foot
  exitᵈ m v k l = sym (eqb-true foot v (all_of-mem (eqb foot) (outgoing_nodes g m) (testsᵈ.1 m k).2 (mem-outs g m v l)))

  exitsᵈ : (m : ℕ) → Memᴰ m midsᵈ → Go (net_of g) (at m) (exit_of (some foot))
  exitsᵈ m k = let o = some_out g m (testsᵈ.1 m k).1 in rw (exitᵈ m o.0 k o.1) at o.1

  only_exitᵈ : (m : ℕ) (q : Pt) → Memᴰ m midsᵈ → Go (net_of g) (at m) q → q ≡ exit_of (some foot)
  only_exitᵈ m start k l = absurd l
  only_exitᵈ m (at v) k l = ap at (exitᵈ m v k l)
  only_exitᵈ m stop k l = let o = some_out g m (testsᵈ.1 m k).1 in absurd (l.1 o.0 o.1)

  enoughᵈ : (p s : List ℕ) → both p s ≡ true → ((non_empty p ≡ true) ⊎ (non_empty s ≡ true))
      × (non_empty s ≡ false → (b : ℕ) × (◌≡◌ {A = Option ℕ} (some foot) (some b)))
  enoughᵈ p s t = (or_cases _ _ t, λ _. (foot, refl))

  abbrev preᵈ : List ℕ
  preᵈ = common_prefix (map (vertex_sequence g) midsᵈ)

  abbrev sufᵈ : List ℕ
  sufᵈ = common_suffix (map (drop (length preᵈ)) (map (vertex_sequence g) midsᵈ))

  longᵈ : 1 ≤ length preᵈ + length sufᵈ
  longᵈ = or_long preᵈ sufᵈ (is-wanted g sound.bounded sound.rank sound.ranks top (some foot) (λ m k. (testsᵈ.1 m k).0)
      testsᵈ.0 exitsᵈ only_exitᵈ both enoughᵈ g' partsᵈ.1).0

  savedᵈ : length preᵈ + length sufᵈ + 1 ≤ total (λ _. length preᵈ + length sufᵈ) midsᵈ
  savedᵈ = omega (arith, total-const (length preᵈ + length sufᵈ) midsᵈ 1 longᵈ (omega (arith, testsᵈ.0)), total-times 1 midsᵈ, testsᵈ.0)

  pub diamond-bytes : total length g'.verts < total length g.verts
  diamond-bytes = omega (
    arith,
    savedᵈ,
    bytes-split g sound.bounded sound.rank sound.ranks top (some foot) (λ m k.
        (testsᵈ.1 m k).0) testsᵈ.0 exitsᵈ only_exitᵈ both enoughᵈ g' partsᵈ.1 (distinct-outs g top once),
  )

  pub diamond-heft : total heft g'.verts < total heft g.verts
  diamond-heft = omega (
    arith,
    savedᵈ,
    heft-split g sound.bounded sound.rank sound.ranks top (some foot) (λ m k.
        (testsᵈ.1 m k).0) testsᵈ.0 exitsᵈ only_exitᵈ both enoughᵈ g' partsᵈ.1 (distinct-outs g top once),
  )

  has-foot : (b : Bool) → bit (b && not (is_none (some foot))) ≡ bit b
  unfolding is_none bit
  has-foot true = refl
  has-foot false = refl

  pub diamond-surplus : length g'.edges + node_count g ≤ length g.edges + node_count g'
  diamond-surplus =
      omega (
        arith,
        surplus-split g sound.bounded sound.rank sound.ranks top (some foot) (λ m k. (testsᵈ.1 m k).0) testsᵈ.0 exitsᵈ
            only_exitᵈ both enoughᵈ g' partsᵈ.1 (distinct-outs g top once),
        has-foot (non_empty sufᵈ),
        total-le (λ _. 1) (out_degree g) midsᵈ (λ m k. (testsᵈ.1 m k).1),
        total-one midsᵈ,
      )

  not_none : bit (is_none (some foot)) ≡ 0
  unfolding is_none bit
  not_none = refl

  pub diamond-branching : branching g' ≤ branching g
  diamond-branching =
      omega (
        arith,
        branching-is g sound.bounded,
        branching-is g' (diamond-keeps g g' top sound did).sound.bounded,
        diamond-surplus,
        not_none,
        split-sinks g sound.bounded sound.rank sound.ranks top (some foot) (λ m k. (testsᵈ.1 m k).0) testsᵈ.0 exitsᵈ
            only_exitᵈ both enoughᵈ g' partsᵈ.1 (distinct-outs g top once),
      )

  pub diamond-room : (d : Change) × (apply_change g d ≡ g') × (node_count (with_additions d g) ≤ node_count g' + node_count g)
      × (length (with_additions d g).edges ≤ length g'.edges + length g.edges)
  diamond-room = let z = room_split g sound.bounded sound.rank sound.ranks top (some foot) (λ m k. (testsᵈ.1 m k).0)
      testsᵈ.0 exitsᵈ only_exitᵈ both enoughᵈ g' partsᵈ.1 (distinct-outs g top once) in (_, z.0, z.1, z.2)
