-- A turn of each loop over the nodes. Assumes nothing.
use mathlib.Core.Path.{◌≡◌, sym, ap, ◌∙◌, subst}
use mathlib.Core.Bool.{Bool, false, cond, ◌||◌}
use mathlib.Core.List.{List, [], ◌∷◌, ◌++◌, map, map-append, append-nil}
use Prim.Native.Nat.{ℕ, ◌+◌, ◌*◌, ◌-◌, ◌≤◌, ◌<◌}
use native.Mathlib.Omega.{arith}
use lib.ListN.{length, get_or, length-append, length-map}
use lib.Dec.{eqb}
use Rattle.defs.specs.Lists.{any_of}
use Rattle.defs.specs.SeqGraph.{Edge, EdgeData, joined_data, new_edge}
use Rattle.defs.specs.Rewrites.{MidPlan, only_if, prefix_to_suffix_from}
use Rattle.defs.specs.Record.{flag_is_ref}
use Rattle.laws.proofs.Walks.{by_test}
use Rattle.laws.proofs.ListLaws.{by_order}
use Rattle.laws.proofs.Diamonds.{non_empty-yes}
use Rattle.edge_data.specs.EdgeData.{carries, carried_data}
use Rattle.edge_data.specs.declared.Carried.{Carried}
use Rattle.store.specs.Store.{part, put_edge}
use Rattle.store.proofs.VertexLaws.{part-long}
use Rattle.index.specs.Index.{pair_at}
use Rattle.split_and_update.specs.Pushed.{EdgesPushed, VertsPushed, filled, PartPushed, start_of, len_of, left_nodes, rest_of, Restables, RestsPushed}
use Rattle.split_and_update.specs.Ends.{end_carried, plan_of, plans_of, gone_nodes, mid_data, any_ref, mid_edges, nothing}
use Rattle.split_and_update.proofs.PushLaws.{pushed_none, pushed-one, pushed_then, verts-none, verts-then, non_empty-no, part-own}
use Rattle.split_and_update.proofs.NodeLaws.{left-more, left-same, left-none, left-room, gone-more, gone_same, gone-none}
use Rattle.split_and_update.proofs.NodeLaws.{any_snoc, join-snoc, mid_none, mid-snoc, mid_edge, mid-data, length-mid, carried_same}

-- ---- what remains of each

rests-more : (vs p nodes : List ℕ) (x y i : ℕ) → start_of vs (get_or nodes i 0) + len_of vs (get_or nodes i 0) ≤ length p → x + y ≤ len_of vs (get_or nodes i 0)
    → map (rest_of vs p x y) (left_nodes vs (x + y) nodes (i + 1)) ≡ map (rest_of vs p x y) (left_nodes vs (x + y) nodes i)
    ++ filled (rest_of vs p x y (get_or nodes i 0))
unfolding only_if
rests-more vs p nodes x y i b l =
    let v = get_or nodes i 0 in
    let n : length (rest_of vs p x y v) ≡ len_of vs v - y - x = part-long p (start_of vs v + x) (len_of vs v - y - x) (omega arith) in
    by_order (len_of vs v) (x + y)
    (λ (h : len_of vs v ≤ x + y). ap (map (rest_of vs p x y)) (left-same vs nodes (x + y) i h) ∙ sym (append-nil _)
    ∙ rw (non_empty-no (rest_of vs p x y v) (omega arith)))
    (λ (h : x + y < len_of vs v). ap (map (rest_of vs p x y)) (left-more vs nodes (x + y) i h)
    ∙ map-append (rest_of vs p x y) (left_nodes vs (x + y) nodes i) (v ∷ []) ∙ rw (non_empty-yes (rest_of vs p x y v) (omega arith)))

pub rests-start : (k : ℕ) (vs p nodes : List ℕ) (x y : ℕ) → RestsPushed k vs p nodes 0 x y k vs
rests-start k vs p nodes x y = record { is = rw (left-none vs nodes (x + y)) (verts-none k vs p); within = λ used w. w }

module _ {k : ℕ} {vs₀ p nodes : List ℕ} {c x y : ℕ} (F : Restables k vs₀ p nodes c x y) {i j : ℕ} {vs : List ℕ} (R :
    RestsPushed k vs₀ p nodes i x y j vs) (h : i < c) where
  start-same : start_of vs (get_or nodes i 0) ≡ start_of vs₀ (get_or nodes i 0)
  start-same = R.is.same (2 * get_or nodes i 0) (omega (arith, F.below i h))

  len-same : len_of vs (get_or nodes i 0) ≡ len_of vs₀ (get_or nodes i 0)
  len-same = R.is.same (2 * get_or nodes i 0 + 1) (omega (arith, F.below i h))

  pub rests-in : 2 * get_or nodes i 0 + 2 ≤ length vs
  rests-in = omega (arith, F.below i h, F.room, R.is.len)

  -- what pushing one more asks
  pub rests-asks : {s l : ℕ} → s ≡ start_of vs (get_or nodes i 0) → l ≡ len_of vs (get_or nodes i 0)
      → ((x + y ≤ l) × ((s + l ≤ length p) × (s + l < 4294967296))) × (x + y < l → 2 * j + 2 ≤ length vs)
  rests-asks {s} {l} es el = (
    (omega (arith, len-same, F.long i h), (omega (arith, len-same, start-same, F.inside i h), omega (arith, len-same, start-same, F.small i h))),
    λ (b : x + y < l). omega (
      arith,
      F.room,
      R.is.len,
      R.is.count,
      length-map (left_nodes vs₀ (x + y) nodes i) (rest_of vs₀ p x y),
      left-room vs₀ nodes (x + y) i c h (omega (arith, len-same)),
    ),
  )

  pub rests-next : {s l j' : ℕ} {vs' : List ℕ} → s ≡ start_of vs (get_or nodes i 0) → l ≡ len_of vs (get_or nodes i 0)
      → PartPushed j vs (s + x) (part p (s + x) (l - y - x)) j' vs' → RestsPushed k vs₀ p nodes (i + 1) x y j' vs'
  rests-next {s} {l} {j'} {vs'} es el Q =
      let a : s ≡ start_of vs₀ (get_or nodes i 0) = es ∙ start-same in
      let b : l ≡ len_of vs₀ (get_or nodes i 0) = el ∙ len-same in
      let fits : s + x + (l - y - x) ≤ length p = omega (arith, F.inside i h, F.long i h) in
      let q : VertsPushed j vs p (filled (part p (s + x) (l - y - x))) j' vs' = Q.is p (part-own p (s + x) (l - y - x) fits) in
      record {
        is = subst (λ (new : List (List ℕ)). VertsPushed k vs₀ p new j' vs') (sym (rests-more vs₀ p nodes x y i (F.inside i h) (F.long i h)))
            (verts-then R.is (subst (λ (z : List ℕ). VertsPushed j vs p (filled z) j' vs') (λ t. part p (a t + x) (b t - y - x)) q));
        within = λ used w. Q.within used
            (omega (arith, w.at (get_or nodes i 0) (F.below i h), F.long i h, part-long p (s + x) (l - y - x) fits)) (R.within used w);
      }

-- ---- whether a middle that remains has a reference edge

pub ref-start : (m : ℕ) (es vs heads nodes : List ℕ) (cut off : ℕ) → false ≡ any_ref off (plans_of m es heads (left_nodes vs cut nodes 0))
unfolding any_of
ref-start m es vs heads nodes cut off = rw (left-none vs nodes cut)

module _ (m : ℕ) (es vs heads nodes : List ℕ) (cut i : ℕ) where
  abbrev v : ℕ
  v = get_or nodes i 0

  plans-left : cut < len_of vs v → plans_of m es heads (left_nodes vs cut nodes (i + 1)) ≡ plans_of m es heads (left_nodes vs cut nodes i)
      ++ (plan_of m es heads [] v ∷ [])
  plans-left h = ap (plans_of m es heads) (left-more vs nodes cut i h) ∙ map-append (plan_of m es heads []) (left_nodes vs cut nodes i) (v ∷ [])

  pub ref-more : (off : ℕ) (any : Bool) (d : Carried) {r r' : Bool} {l : ℕ} → off ≤ 1 → any ≡ any_ref off (plans_of m es heads (left_nodes vs cut nodes i))
      → l ≡ len_of vs v → cut < l → d ≡ end_carried m es heads off v → r ≡ flag_is_ref d.flag → r' ≡ (any || r)
      → r' ≡ any_ref off (plans_of m es heads (left_nodes vs cut nodes (i + 1)))
  ref-more off any d {r} {r'} {l} o inv el h ed er er' =
      er' ∙ ap (λ (b : Bool). b || r) inv
      ∙ ap (λ (b : Bool). any_ref off (plans_of m es heads (left_nodes vs cut nodes i)) || b) (er ∙ ap (λ (c : Carried). flag_is_ref c.flag) ed
      ∙ ap (λ (c : EdgeData). c.is_ref) (sym (mid-data m es heads [] off v o)))
      ∙ sym (any_snoc (λ (q : MidPlan). (mid_data off q).is_ref) (plans_of m es heads (left_nodes vs cut nodes i)) (plan_of m es heads [] v))
      ∙ ap (any_ref off) (sym (plans-left (omega arith)))

  pub ref-skip : (off : ℕ) (any : Bool) {l : ℕ} → any ≡ any_ref off (plans_of m es heads (left_nodes vs cut nodes i)) → l ≡ len_of vs v
      → l ≤ cut → any ≡ any_ref off (plans_of m es heads (left_nodes vs cut nodes (i + 1)))
  ref-skip off any inv el h = inv ∙ ap (λ (l : List ℕ). any_ref off (plans_of m es heads l)) (sym (left-same vs nodes cut i (omega arith)))

  -- ---- the edges of the middles that are consumed

  abbrev gathered : ℕ → EdgeData
  gathered j = prefix_to_suffix_from nothing (plans_of m es heads (gone_nodes vs cut nodes j))

  pub direct-more : (all into out both all' : Carried) {l : ℕ} → carried_data all ≡ gathered i → l ≡ len_of vs v → l ≤ cut
      → into ≡ end_carried m es heads 1 v → out ≡ end_carried m es heads 0 v → carried_data both ≡ joined_data (carried_data into) (carried_data out)
      → carried_data all' ≡ joined_data (carried_data all) (carried_data both) → carried_data all' ≡ gathered (i + 1)
  direct-more all into out both all' inv el h q₁ q₀ qb qa =
      qa ∙ (λ t. joined_data (inv t) ((qb ∙ (λ u. joined_data (carried_data (q₁ u)) (carried_data (q₀ u)))) t))
      ∙ sym (join-snoc nothing (plans_of m es heads (gone_nodes vs cut nodes i)) (plan_of m es heads [] v))
      ∙ ap (prefix_to_suffix_from nothing) (sym (ap (plans_of m es heads) (gone-more vs nodes cut i (omega arith))
      ∙ map-append (plan_of m es heads []) (gone_nodes vs cut nodes i) (v ∷ [])))

  pub direct-skip : {d : EdgeData} {l : ℕ} → d ≡ gathered i → l ≡ len_of vs v → cut < l → d ≡ gathered (i + 1)
  direct-skip inv el h = inv ∙ ap (λ (l : List ℕ). prefix_to_suffix_from nothing (plans_of m es heads l)) (sym (gone_same vs nodes cut i (omega arith)))

pub direct-start : (m : ℕ) (es vs heads nodes : List ℕ) (cut : ℕ) → nothing ≡ prefix_to_suffix_from nothing (plans_of m es heads (gone_nodes vs cut nodes 0))
unfolding prefix_to_suffix_from
direct-start m es vs heads nodes cut = rw (gone-none vs nodes cut)

-- ---- edges to or from the middles that remain

pub record PushingMiddles (m k : ℕ) (es₀ vs heads nodes : List ℕ) (cut off u first i : ℕ) (es : List ℕ) (at j : ℕ) : Type 0 where
  pub number : j ≡ first + length (left_nodes vs cut nodes i)
  pub edges : EdgesPushed k es₀ (mid_edges off u first (plans_of m es₀ heads (left_nodes vs cut nodes i))) at es

pub pushing-start : (m k : ℕ) (es vs heads nodes : List ℕ) (cut off u first : ℕ) → PushingMiddles m k es vs heads nodes cut off u first 0 es k first
pushing-start m k es vs heads nodes cut off u first = record {
  number = omega (arith, ap length (left-none vs nodes cut));
  edges = rw (left-none vs nodes cut, mid_none off u first) (pushed_none k es);
}

module _ {m k : ℕ} {es₀ vs heads nodes : List ℕ} {cut off u first i : ℕ} {es : List ℕ} {at j : ℕ} (P :
    PushingMiddles m k es₀ vs heads nodes cut off u first i es at j) where
  abbrev node : ℕ
  node = get_or nodes i 0

  pub at-is : at ≡ k + length (left_nodes vs cut nodes i)
  at-is = omega (
    arith,
    P.edges.count,
    length-mid off u first (plans_of m es₀ heads (left_nodes vs cut nodes i)),
    length-map (left_nodes vs cut nodes i) (plan_of m es₀ heads []),
  )

  pub pushing-room : {c l : ℕ} → i < c → l ≡ len_of vs node → cut < l → 4 * (k + length (left_nodes vs cut nodes c)) ≤ length es₀ → 4 * at + 4 ≤ length es
  pushing-room {c} h el b r = omega (arith, at-is, P.edges.len, left-room vs nodes cut i c h (omega arith))

  pub pushing-skip : {l : ℕ} → l ≡ len_of vs node → l ≤ cut → PushingMiddles m k es₀ vs heads nodes cut off u first (i + 1) es at j
  pushing-skip el h = let q = left-same vs nodes cut i (omega arith) in record {
    number = P.number ∙ ap (λ (x : List ℕ). first + length x) (sym q);
    edges = rw q P.edges;
  }

  one-edge : (es' : List ℕ) (s f : ℕ) → 4 * at + 4 ≤ length es → es' ≡ cond (eqb off 1) (put_edge es at u j s f) (put_edge es at j u s f)
      → EdgesPushed at es (mid_edge off u j (carries s f) ∷ []) (at + 1) es'
  unfolding new_edge
  one-edge es' s f r q = by_test (eqb off 1) (λ t. rw t (pushed-one u j s f r (rw t at q))) (λ t. rw t (pushed-one j u s f r (rw t at q)))

  pub pushing-more : (d : Carried) {l : ℕ} {es' : List ℕ} → off ≤ 1 → m ≤ k → l ≡ len_of vs node → cut < l → pair_at 1 heads node < m
      → 4 * at + 4 ≤ length es → d ≡ end_carried m es heads off node
      → es' ≡ cond (eqb off 1) (put_edge es at u j d.support d.flag) (put_edge es at j u d.support d.flag)
      → PushingMiddles m k es₀ vs heads nodes cut off u first (i + 1) es' (at + 1) (j + 1)
  pushing-more d {l} {es'} o mk el h en r d-is q = record {
    number = omega (arith, P.number, ap length more, length-append (left_nodes vs cut nodes i) (node ∷ []));
    edges = subst (λ (new : List Edge). EdgesPushed k es₀ new (at + 1) es') (sym news) (pushed_then P.edges (one-edge es' d.support d.flag r q));
  }
    where
      more : left_nodes vs cut nodes (i + 1) ≡ left_nodes vs cut nodes i ++ (node ∷ [])
      more = left-more vs nodes cut i (omega arith)

      kept : (x : ℕ) → x < 4 * m → get_or es x 0 ≡ get_or es₀ x 0
      kept x b = P.edges.same x (omega arith)

      carried : mid_data off (plan_of m es₀ heads [] node) ≡ carried_data d
      carried = mid-data m es₀ heads [] off node o ∙ sym (ap carried_data (d-is ∙ carried_same m es₀ es heads kept off node en))

      news : mid_edges off u first (plans_of m es₀ heads (left_nodes vs cut nodes (i + 1)))
          ≡ mid_edges off u first (plans_of m es₀ heads (left_nodes vs cut nodes i))
          ++ (mid_edge off u j (carried_data d) ∷ [])
      news = ap (λ (l : List ℕ). mid_edges off u first (plans_of m es₀ heads l)) more
          ∙ ap (mid_edges off u first) (map-append (plan_of m es₀ heads []) (left_nodes vs cut nodes i) (node ∷ []))
          ∙ mid-snoc off u first (plans_of m es₀ heads (left_nodes vs cut nodes i)) (plan_of m es₀ heads [] node)
          ∙ (λ t. mid_edges off u first (plans_of m es₀ heads (left_nodes vs cut nodes i)) ++ (mid_edge off u (num t) (carried t) ∷ []))
        where
          num : first + length (plans_of m es₀ heads (left_nodes vs cut nodes i)) ≡ j
          num = omega (arith, P.number, length-map (left_nodes vs cut nodes i) (plan_of m es₀ heads []))
