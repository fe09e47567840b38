-- The nodes of which something remains, and those of which nothing does, one node more. Assumes nothing.
use mathlib.Core.Path.{◌≡◌, refl, sym, ap, ◌∙◌}
use mathlib.Core.Bool.{Bool, not, cond, ◌||◌}
use mathlib.Core.List.{List, [], ◌∷◌, ◌++◌, map, Memᴰ}
use Prim.Native.Nat.{ℕ, suc, ◌+◌, ◌*◌, ◌-◌, ◌≤◌, ◌<◌}
use native.Mathlib.Omega.{arith}
use native.Mathlib.Nat.{add-zero}
use lib.ListN.{length, get_or, length-append}
use lib.Dec.{eqb, ltb}
use borrow.Author.Tests.{lt-ltb, le-ltb, ltb-true, eqb-true, eqb-false}
use Rattle.defs.specs.Lists.{bit, tab, tab_from, keep_if, any_of}
use Rattle.defs.specs.SeqGraph.{Edge, EdgeData, joined_data, new_edge}
use Rattle.defs.specs.Rewrites.{MidPlan, edges_to_middles, edges_from_middles, prefix_to_suffix_from}
use Rattle.defs.specs.Record.{flag_is_ref}
use Rattle.laws.proofs.Walks.{by_test}
use Rattle.laws.proofs.ListLaws.{of-keep_if, keep_if-same}
use Rattle.laws.proofs.Counts.{length_both}
use Rattle.laws.proofs.SplitCounts.{length-to_middles, length-from_middles}
use Rattle.tabs.proofs.Tabs.{length-tab}
use Rattle.tabs.proofs.ListTabs.{tab-append, keep_if-append, keep_if-tab-yes, keep_if-tab-no, of-mem-tab}
use Rattle.edge_data.specs.EdgeData.{carried_data}
use Rattle.store.specs.Store.{nums_in}
use Rattle.index.specs.Index.{pair_at}
use Rattle.split_and_update.specs.Pushed.{len_of, leaves, left_nodes}
use Rattle.split_and_update.specs.Ends.{Entered, end_carried, end_data, plan_of, plans_of, gone_nodes, Mids, mid_data, mid_edges}

abbrev node_at : List ℕ → ℕ → ℕ
node_at nodes i = get_or nodes i 0

-- ---- one node more

module _ (vs nodes : List ℕ) (cut i : ℕ) where
  pub left-more : cut < len_of vs (get_or nodes i 0) → left_nodes vs cut nodes (i + 1) ≡ left_nodes vs cut nodes i ++ (get_or nodes i 0 ∷ [])
  left-more h = keep_if-tab-yes (leaves vs cut) i (node_at nodes) (lt-ltb _ _ h)

  pub left-same : len_of vs (get_or nodes i 0) ≤ cut → left_nodes vs cut nodes (i + 1) ≡ left_nodes vs cut nodes i
  left-same h = keep_if-tab-no (leaves vs cut) i (node_at nodes) (le-ltb _ _ h)

  pub gone-more : len_of vs (get_or nodes i 0) ≤ cut → gone_nodes vs cut nodes (i + 1) ≡ gone_nodes vs cut nodes i ++ (get_or nodes i 0 ∷ [])
  gone-more h = keep_if-tab-yes (λ (v : ℕ). not (leaves vs cut v)) i (node_at nodes) (ap not (le-ltb _ _ h))

  pub gone_same : cut < len_of vs (get_or nodes i 0) → gone_nodes vs cut nodes (i + 1) ≡ gone_nodes vs cut nodes i
  gone_same h = keep_if-tab-no (λ (v : ℕ). not (leaves vs cut v)) i (node_at nodes) (ap not (lt-ltb _ _ h))

pub left-none : (vs nodes : List ℕ) (cut : ℕ) → left_nodes vs cut nodes 0 ≡ []
unfolding keep_if tab_from
left-none vs nodes cut = refl

pub gone-none : (vs nodes : List ℕ) (cut : ℕ) → gone_nodes vs cut nodes 0 ≡ []
unfolding keep_if tab_from
gone-none vs nodes cut = refl

-- where node i is left, there are more among the first c than among the first i
pub left-room : (vs nodes : List ℕ) (cut i c : ℕ) → i < c → cut < len_of vs (get_or nodes i 0) → length (left_nodes vs cut nodes i)
    + 1 ≤ length (left_nodes vs cut nodes c)
left-room vs nodes cut i c h b =
    let e : c ≡ (i + 1) + (c - (i + 1)) = omega arith in
    let rest = tab (c - (i + 1)) (λ (j : ℕ). node_at nodes ((i + 1) + j)) in
    let q : left_nodes vs cut nodes c ≡ left_nodes vs cut nodes (i + 1) ++ keep_if (leaves vs cut) rest
    = ap (keep_if (leaves vs cut)) (ap (λ (x : ℕ). tab x (node_at nodes)) e ∙ tab-append (i + 1) (c - (i + 1)) (node_at nodes))
    ∙ keep_if-append (leaves vs cut) (nums_in (i + 1) nodes) rest in
    omega (
      arith,
      ap length q,
      length-append (left_nodes vs cut nodes (i + 1)) (keep_if (leaves vs cut) rest),
      ap length (left-more vs nodes cut i b),
      length-append (left_nodes vs cut nodes i) (node_at nodes i ∷ []),
    )

-- ---- lists of middles, one more at the end

pub any_snoc : {A : Type 0} (p : A → Bool) (l : List A) (x : A) → any_of p (l ++ (x ∷ [])) ≡ (any_of p l || p x)
unfolding any_of
any_snoc p [] x = by_test (p x) (λ t. rw t) (λ t. rw t)
any_snoc p (y ∷ l) x = by_test (p y) (λ t. rw (t, any_of)) (λ t. rw (t, any_of) (any_snoc p l x))

pub join-snoc : (a : EdgeData) (l : List MidPlan) (q : MidPlan) → prefix_to_suffix_from a (l ++ (q ∷ []))
    ≡ joined_data (prefix_to_suffix_from a l) (joined_data q.to_mid q.from_mid)
unfolding prefix_to_suffix_from
join-snoc a [] q = refl
join-snoc a (m ∷ l) q = join-snoc (joined_data a (joined_data m.to_mid m.from_mid)) l q

to-snoc : (u j : ℕ) (l : List MidPlan) (q : MidPlan) → edges_to_middles u j (l ++ (q ∷ [])) ≡ edges_to_middles u j l ++ (new_edge u (j + length l) q.to_mid ∷ [])
unfolding edges_to_middles
to-snoc u j [] q = ap (λ (x : ℕ). new_edge u x q.to_mid ∷ []) (sym (add-zero j))
to-snoc u j (m ∷ l) q = ap (λ (r : List Edge). new_edge u j m.to_mid ∷ r) (to-snoc u (suc j) l q
    ∙ ap (λ (x : ℕ). edges_to_middles u (suc j) l ++ (new_edge u x q.to_mid ∷ [])) (omega arith))

from-snoc : (u j : ℕ) (l : List MidPlan) (q : MidPlan) → edges_from_middles j u (l ++ (q ∷ [])) ≡ edges_from_middles j u l
    ++ (new_edge (j + length l) u q.from_mid ∷ [])
unfolding edges_from_middles
from-snoc u j [] q = ap (λ (x : ℕ). new_edge x u q.from_mid ∷ []) (sym (add-zero j))
from-snoc u j (m ∷ l) q = ap (λ (r : List Edge). new_edge j u m.from_mid ∷ r) (from-snoc u (suc j) l q
    ∙ ap (λ (x : ℕ). edges_from_middles (suc j) u l ++ (new_edge x u q.from_mid ∷ [])) (omega arith))

pub length-mid : (off u j : ℕ) (l : List MidPlan) → length (mid_edges off u j l) ≡ length l
length-mid off u j l = by_test (eqb off 1) (λ t. rw t (length-to_middles u j l)) (λ t. rw t (length-from_middles j u l))

-- the edge between u and the middle j
abbrev pub mid_edge : ℕ → ℕ → ℕ → EdgeData → Edge
mid_edge off u j d = cond (eqb off 1) (new_edge u j d) (new_edge j u d)

pub mid-snoc : (off u j : ℕ) (l : List MidPlan) (q : MidPlan) → mid_edges off u j (l ++ (q ∷ [])) ≡ mid_edges off u j l
    ++ (mid_edge off u (j + length l) (mid_data off q) ∷ [])
mid-snoc off u j l q = by_test (eqb off 1) (λ t. rw t (to-snoc u j l q)) (λ t. rw t (from-snoc u j l q))

pub mid_none : (off u j : ℕ) → mid_edges off u j [] ≡ []
unfolding edges_to_middles edges_from_middles
mid_none off u j = by_test (eqb off 1) (λ t. rw t) (λ t. rw t)

-- ---- the edges at a node, in slices

pub mid-data : (m : ℕ) (es heads q : List ℕ) (off v : ℕ) → off ≤ 1 → mid_data off (plan_of m es heads q v) ≡ end_data m es heads off v
mid-data m es heads q off v h = by_test (eqb off 1)
    (λ t. rw t (ap (λ (x : ℕ). end_data m es heads x v) (sym (eqb-true off 1 t))))
    (λ t. let z : 0 ≡ off = omega (arith, eqb-false off 1 t, h) in rw t (ap (λ (x : ℕ). end_data m es heads x v) z))

module _ (m : ℕ) (es es' heads : List ℕ) (same : (i : ℕ) → i < 4 * m → get_or es' i 0 ≡ get_or es i 0) where
  pub carried_same : (off v : ℕ) → pair_at 1 heads v < m → end_carried m es' heads off v ≡ end_carried m es heads off v
  carried_same off v h = by_test (ltb (pair_at off heads v) m)
      (λ t. let b = ltb-true (pair_at off heads v) m t in rw t (λ i. record {
        support = same (4 * pair_at off heads v + 2) (omega (arith, b)) i;
        flag = same (4 * pair_at off heads v + 3) (omega (arith, b)) i;
      }))
      (λ t. rw t (λ i. record { support = 0; flag = bit (flag_is_ref (same (4 * pair_at 1 heads v + 3) (omega arith) i)) }))

  pub data-same : (off v : ℕ) → pair_at 1 heads v < m → end_data m es' heads off v ≡ end_data m es heads off v
  data-same off v h = ap carried_data (carried_same off v h)

pub map_same : {A B : Type 0} (f g : A → B) (l : List A) → ((x : A) → Memᴰ x l → f x ≡ g x) → map f l ≡ map g l
map_same f g [] h = refl
map_same f g (x ∷ l) h = λ i. h x (Memᴰ.head refl) i ∷ map_same f g l (λ y k. h y (Memᴰ.tail k)) i

-- the plans are the same where the first m edges are
pub plans-same : {m : ℕ} {es vs heads nodes : List ℕ} {c : ℕ} → Mids m es vs heads nodes c → (es' : List ℕ)
    → ((i : ℕ) → i < 4 * m → get_or es' i 0 ≡ get_or es i 0) → (t : ℕ → Bool)
    → plans_of m es' heads (keep_if t (nums_in c nodes)) ≡ plans_of m es heads (keep_if t (nums_in c nodes))
plans-same {m} {es} {vs} {heads} {nodes} {c} M es' same t = map_same (plan_of m es' heads []) (plan_of m es heads []) (keep_if t (nums_in c nodes)) (λ v k.
    let r = of-mem-tab c (node_at nodes) (of-keep_if t (nums_in c nodes) k).0 in
    let h : pair_at 1 heads v < m = rw r.2 (M.entered r.0 r.1) in
    λ i. record { remaining = []; to_mid = data-same m es es' heads same 1 v h i; from_mid = data-same m es es' heads same 0 v h i })

pub mids-kept : {m : ℕ} {es es' vs heads nodes : List ℕ} {c : ℕ} → Mids m es vs heads nodes c → length es' ≡ length es → Mids m es' vs heads nodes c
mids-kept M q = record { es-room = omega (arith, M.es-room); nodes-room = M.nodes-room; in-vs = M.in-vs; in-heads = M.in-heads; entered = M.entered }

pub mids-enter : {m : ℕ} {es vs heads nodes : List ℕ} {c : ℕ} → Mids m es vs heads nodes c → (off i : ℕ) → off ≤ 1 → i < c
    → Entered m es heads off (get_or nodes i 0)
mids-enter M off i o h = record { off_small = o; es-room = M.es-room; heads-room = M.in-heads i h; first = M.entered i h }

pub node_counts : (vs nodes : List ℕ) (cut c : ℕ) → length (left_nodes vs cut nodes c) + length (gone_nodes vs cut nodes c) ≡ c
node_counts vs nodes cut c = length_both (leaves vs cut) (nums_in c nodes) ∙ length-tab c (node_at nodes)

-- ---- the same nodes, where their lengths are

module _ (vs vs' nodes : List ℕ) (cut c : ℕ) (same : (i : ℕ) → i < c → len_of vs' (get_or nodes i 0) ≡ len_of vs (get_or nodes i 0)) where
  leaves-same : (v : ℕ) → Memᴰ v (nums_in c nodes) → leaves vs' cut v ≡ leaves vs cut v
  leaves-same v k = let r = of-mem-tab c (node_at nodes) k in ap (ltb cut) (rw r.2 (same r.0 r.1))

  pub left-kept : left_nodes vs' cut nodes c ≡ left_nodes vs cut nodes c
  left-kept = keep_if-same (leaves vs' cut) (leaves vs cut) (nums_in c nodes) leaves-same

  pub gone-kept : gone_nodes vs' cut nodes c ≡ gone_nodes vs cut nodes c
  gone-kept = keep_if-same (λ (v : ℕ). not (leaves vs' cut v)) (λ (v : ℕ). not (leaves vs cut v)) (nums_in c nodes) (λ v k. ap not (leaves-same v k))
