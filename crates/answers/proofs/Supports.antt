-- Supports stay below 2^32, and k stays k, in every rewrite, in cleanup and in conversion.
-- Assumes nothing.
use Prim.Native.Nat.{ℕ, zero, suc, ◌+◌, ◌<◌, ◌≤◌, min}
use native.Mathlib.Omega.{arith}
use mathlib.Core.Path.{◌≡◌, refl, sym, ap, ◌∙◌}
use mathlib.Core.Bool.{Bool, true, false, cond, ◌&&◌, not}
use mathlib.Core.Option.{Option, none, some}
use mathlib.Core.List.Memᴰ
use mathlib.Core.List.{List, [], ◌∷◌, ◌++◌, map, Memᴰ}
use mathlib.Core.Logic.{⊎_elim}
use lib.ListN.{length}
use Rattle.defs.specs.Lists.{keep_if, concat, any_of}
use Rattle.defs.specs.SeqGraph.{Edge, Graph, node_count, edges_from, edges_into, incoming_nodes, saturating_add, has_ends, add_or_update_edge, EdgeData, edge_data, new_edge, joined_data}
use Rattle.defs.specs.SeqGraph.{add_or_update_edges, remap_edge, compact_vertices, keeps, remove_vertices_by_id, Change, with_additions, apply_change}
use Rattle.defs.specs.Zip.{last_of, move_from, merge_linear_chain}
use Rattle.defs.specs.Rewrites as W
use Rattle.defs.specs.Rewrites.{support_one, process_edge, MidPlan, mid_plan, has_remaining, prefix_to_suffix_from}
use Rattle.defs.specs.Rewrites.{prefix_to_suffix, new_edge_if, edges_to_middles, edges_from_middles, only_if, split_and_update_with, split_and_update}
use Rattle.defs.specs.Rewrites.{diamond_change, tails_change, redirected_to, redirected_from, suffix_and_prefix_edges, suffix_and_prefix}
use Rattle.defs.specs.Rewrites.{without_suffix, split_edges, split_change, merge_change}
use Rattle.laws.proofs.Walks.{by_test}
use Rattle.laws.proofs.ListLaws.{of-keep_if}
use Rattle.answers.proofs.Kept.{KeptByEach}

abbrev Counts : ℕ → Type 0
Counts s = s < 4294967296

abbrev pub SmallSupports : List Edge → Type 0
SmallSupports es = (e : Edge) → Memᴰ e es → e.support < 4294967296

pub none-small : SmallSupports []
none-small e m = absurd (Memᴰ.not-nil m)

pub cons-small : {e : Edge} {es : List Edge} → Counts e.support → SmallSupports es → SmallSupports (e ∷ es)
cons-small {e} {es} c h d m = ⊎_elim (λ (i : d ≡ e). rw i c) (λ (n : Memᴰ d es). h d n) (Memᴰ.cases_cons m)

head_small : {e : Edge} {es : List Edge} → SmallSupports (e ∷ es) → Counts e.support
head_small {e} h = h e (Memᴰ.head refl)

tail-small : {e : Edge} {es : List Edge} → SmallSupports (e ∷ es) → SmallSupports es
tail-small h d m = h d (Memᴰ.tail m)

append-small : (xs : List Edge) {ys : List Edge} → SmallSupports xs → SmallSupports ys → SmallSupports (xs ++ ys)
append-small xs h k d m = ⊎_elim (λ n. h d n) (λ n. k d n) (Memᴰ.append_cases xs m)

pub keep_if-small : (p : Edge → Bool) (es : List Edge) → SmallSupports es → SmallSupports (keep_if p es)
keep_if-small p es h d m = h d (of-keep_if p es m).0

map-small : (f : Edge → Edge) → ((e : Edge) → (f e).support ≡ e.support) → (es : List Edge) → SmallSupports es → SmallSupports (map f es)
map-small f same [] h = none-small
map-small f same (e ∷ es) h = cons-small (rw (same e) (head_small h)) (map-small f same es (tail-small h))

-- supports are added up to 2^32 - 1
joined_small : (a b : EdgeData) → Counts (joined_data a b).support
unfolding joined_data saturating_add
joined_small a b = omega arith

add-yes : (u v : ℕ) (d : EdgeData) (e : Edge) (es : List Edge) → has_ends u v e ≡ true → SmallSupports es → SmallSupports (add_or_update_edge u v d (e ∷ es))
unfolding add_or_update_edge new_edge
add-yes u v d e es t h = rw (t, add_or_update_edge) (cons-small (joined_small (edge_data e) d) h)

add-no : (u v : ℕ) (d : EdgeData) (e : Edge) (es : List Edge) → has_ends u v e ≡ false → Counts e.support
    → SmallSupports (add_or_update_edge u v d es) → SmallSupports (add_or_update_edge u v d (e ∷ es))
unfolding add_or_update_edge
add-no u v d e es t c h = rw (t, add_or_update_edge) (cons-small c h)

add_none : (u v : ℕ) (d : EdgeData) → Counts d.support → SmallSupports (add_or_update_edge u v d [])
unfolding add_or_update_edge new_edge
add_none u v d c = cons-small c none-small

add_small : (u v : ℕ) (d : EdgeData) (es : List Edge) → Counts d.support → SmallSupports es → SmallSupports (add_or_update_edge u v d es)
add_small u v d [] c h = add_none u v d c
add_small u v d (e ∷ es) c h = by_test (has_ends u v e)
    (λ t. add-yes u v d e es t (tail-small h))
    (λ t. add-no u v d e es t (head_small h) (add_small u v d es c (tail-small h)))

adds-small : (ns es : List Edge) → SmallSupports ns → SmallSupports es → SmallSupports (add_or_update_edges ns es)
unfolding add_or_update_edges edge_data
adds-small [] es n h = h
adds-small (x ∷ ns) es n h = adds-small ns (add_or_update_edge x.from x.to (edge_data x) es) (tail-small n)
    (add_small x.from x.to (edge_data x) es (head_small n) h)

-- what is kept: k, and small supports
pub record Fields (k : ℕ) (g : Graph) : Type 0 where
  pub k-is : g.k ≡ k
  pub supports : SmallSupports g.edges

pub compact-fields : {k : ℕ} (p : ℕ → Bool) (g : Graph) → Fields k g → Fields k (compact_vertices p g)
unfolding compact_vertices remap_edge
compact-fields p g F = record {
  k-is = F.k-is;
  supports = map-small (remap_edge p) (λ e. refl) (keep_if (λ e. p e.from && p e.to) g.edges)
      (keep_if-small (λ e. p e.from && p e.to) g.edges F.supports);
}

pub change-fields : {k : ℕ} (g : Graph) (c : Change) → SmallSupports c.edges → Fields k g → Fields k (apply_change g c)
unfolding apply_change remove_vertices_by_id with_additions
change-fields g c h F = compact-fields (keeps c.gone) (with_additions c g) record {
  k-is = F.k-is;
  supports =
      adds-small c.edges g.edges h F.supports;
}

-- a middle's two edges
record SmallPlan (m : MidPlan) : Type 0 where
  in_small : Counts m.to_mid.support
  out-small : Counts m.from_mid.support

abbrev SmallPlans : List MidPlan → Type 0
SmallPlans ms = (m : MidPlan) → Memᴰ m ms → SmallPlan m

head-plan : {m : MidPlan} {ms : List MidPlan} → SmallPlans (m ∷ ms) → SmallPlan m
head-plan {m} h = h m (Memᴰ.head refl)

tail-plan : {m : MidPlan} {ms : List MidPlan} → SmallPlans (m ∷ ms) → SmallPlans ms
tail-plan h d m = h d (Memᴰ.tail m)

keep_if-plans : (p : MidPlan → Bool) (ms : List MidPlan) → SmallPlans ms → SmallPlans (keep_if p ms)
keep_if-plans p ms h d m = h d (of-keep_if p ms m).0

to-small : (u n : ℕ) (ms : List MidPlan) → SmallPlans ms → SmallSupports (edges_to_middles u n ms)
unfolding edges_to_middles new_edge
to-small u n [] h = none-small
to-small u n (m ∷ ms) h = cons-small (head-plan h).in_small (to-small u (suc n) ms (tail-plan h))

from-middles-small : (n v : ℕ) (ms : List MidPlan) → SmallPlans ms → SmallSupports (edges_from_middles n v ms)
unfolding edges_from_middles new_edge
from-middles-small n v [] h = none-small
from-middles-small n v (m ∷ ms) h = cons-small (head-plan h).out-small (from-middles-small (suc n) v ms (tail-plan h))

direct-from : (a : EdgeData) (ms : List MidPlan) → Counts a.support → Counts (prefix_to_suffix_from a ms).support
unfolding prefix_to_suffix_from
direct-from a [] c = c
direct-from a (m ∷ ms) c = direct-from (joined_data a (joined_data m.to_mid m.from_mid)) ms (joined_small a (joined_data m.to_mid m.from_mid))

direct-small : (u v : ℕ) (ms : List MidPlan) → SmallSupports (new_edge_if u v (prefix_to_suffix ms))
unfolding prefix_to_suffix new_edge_if new_edge
direct-small u v [] = none-small
direct-small u v (m ∷ ms) = cons-small (direct-from (joined_data m.to_mid m.from_mid) ms (joined_small m.to_mid m.from_mid)) none-small

only_if-small : (b : Bool) (es : List Edge) → SmallSupports es → SmallSupports (only_if b es)
unfolding only_if
only_if-small true es h = h
only_if-small false es h = none-small

one-small : (b : Bool) (u v : ℕ) (r : Bool) → SmallSupports (only_if b (new_edge u v (support_one r) ∷ []))
unfolding new_edge support_one
one-small b u v r = only_if-small b _ (cons-small (omega arith) none-small)

update-small : (has_prefix has_suffix : Bool) (n top : ℕ) (bottom : Option ℕ) (plans consumed : List MidPlan) (prefix suffix middles : List ℕ) → SmallPlans plans
    → SmallSupports (split_and_update_with has_prefix has_suffix n top bottom plans (prefix_to_suffix consumed) prefix suffix middles).edges
unfolding split_and_update_with
update-small has_prefix has_suffix n top bottom plans consumed prefix suffix middles h =
    append-small _ (one-small has_prefix _ _ _)
    (append-small _ (one-small (has_suffix && not (W.is_none bottom)) _ _ _)
    (append-small _ (to-small _ _ plans h)
    (append-small _ (direct-small _ _ consumed)
    (append-small _ (from-middles-small _ _ plans h) (only_if-small has_prefix _ (direct-small _ _ consumed))))))

module _ (g : Graph) (h : SmallSupports g.edges) where
  into-small : (v : ℕ) → SmallSupports (edges_into g v)
  unfolding edges_into
  into-small v = keep_if-small _ g.edges h

  from-small : (v : ℕ) → SmallSupports (edges_from g v)
  unfolding edges_from
  from-small v = keep_if-small _ g.edges h

  process-small : (v : ℕ) (es : List Edge) → SmallSupports es → Counts (process_edge g v es).support
  unfolding process_edge edge_data
  process-small v [] s = omega arith
  process-small v (e ∷ es) s = head_small s

  plan-small : (p s v : ℕ) → SmallPlan (mid_plan g p s v)
  unfolding mid_plan
  plan-small p s v = record { in_small = process-small v (edges_into g v) (into-small v); out-small = process-small v (edges_from g v) (from-small v) }

  plans-small : (p s : ℕ) (vs : List ℕ) → SmallPlans (map (mid_plan g p s) vs)
  plans-small p s [] m x = absurd (Memᴰ.not-nil x)
  plans-small p s (v ∷ vs) m x = ⊎_elim (λ (i : m ≡ mid_plan g p s v). rw i (plan-small p s v)) (λ n. plans-small p s vs m n) (Memᴰ.cases_cons x)

  split-and-update-small : (top : ℕ) (bottom : Option ℕ) (middles prefix suffix : List ℕ)
      → SmallSupports (split_and_update g top bottom middles prefix suffix).edges
  unfolding split_and_update
  split-and-update-small top bottom middles prefix suffix =
      let ps = map (mid_plan g (length prefix) (length suffix)) middles in
      update-small (W.non_empty prefix) (W.non_empty suffix) (node_count g) top bottom (keep_if has_remaining ps)
      (keep_if (λ m. not (has_remaining m)) ps) prefix suffix middles
      (keep_if-plans has_remaining ps (plans-small (length prefix) (length suffix) middles))

  diamond-small : (v : ℕ) → SmallSupports (diamond_change g v).edges
  unfolding diamond_change
  diamond-small v = split-and-update-small v _ _ _ _

  tails-small : (v : ℕ) → SmallSupports (tails_change g v).edges
  unfolding tails_change
  tails-small v = split-and-update-small v _ _ _ _

  -- splits
  redirected-to : (v : ℕ) (es : List Edge) → SmallSupports es → SmallSupports (map (redirected_to v) es)
  unfolding redirected_to new_edge edge_data
  redirected-to v es s = map-small (redirected_to v) (λ e. refl) es s

  redirected-from : (v : ℕ) (es : List Edge) → SmallSupports es → SmallSupports (map (redirected_from v) es)
  unfolding redirected_from new_edge edge_data
  redirected-from v es s = map-small (redirected_from v) (λ e. refl) es s

  suffix-and-prefix-small : (bottom sv : ℕ) (prefix : List ℕ) (incoming : List Edge) (out : EdgeData) → SmallSupports incoming
      → Counts out.support → SmallSupports (suffix_and_prefix_edges bottom sv prefix incoming out)
  unfolding suffix_and_prefix_edges new_edge support_one
  suffix-and-prefix-small bottom sv [] incoming out s c = cons-small c (redirected-to sv incoming s)
  suffix-and-prefix-small bottom sv (x ∷ xs) incoming out s c = cons-small (omega arith) (cons-small c (redirected-to (suc sv) incoming s))

  split-edges-small : (bottom : ℕ) (suffix : List ℕ) (n : ℕ) (ps : List ℕ) → SmallSupports (split_edges g bottom suffix n ps)
  unfolding split_edges
  split-edges-small bottom suffix n [] = none-small
  split-edges-small bottom suffix n (p ∷ ps) =
      append-small _ (suffix-and-prefix-small bottom n (without_suffix g (length suffix) p) (edges_into g p) (process_edge g p (edges_from g p))
      (into-small p) (process-small p (edges_from g p) (from-small p)))
      (split-edges-small bottom suffix (length (suffix_and_prefix suffix (without_suffix g (length suffix) p)) + n) ps)

  split-small : (v : ℕ) → SmallSupports (split_change g v).edges
  unfolding split_change
  split-small v = split-edges-small v _ _ _

  -- merges
  all-into-small : (ps : List ℕ) → SmallSupports (concat (map (edges_into g) ps))
  unfolding concat
  all-into-small [] = none-small
  all-into-small (p ∷ ps) = append-small _ (into-small p) (all-into-small ps)

  merge-small : (v : ℕ) (ps : List ℕ) → SmallSupports (merge_change g v ps).edges
  unfolding merge_change
  merge-small v ps = append-small _ (redirected-to (node_count g) _ (all-into-small ps)) (redirected-from (node_count g) _ (from-small v))

-- a joined chain
zip-fields : {k : ℕ} (g : Graph) (s : ℕ) (chain : List ℕ) → Fields k g → Fields k (merge_linear_chain g s chain)
unfolding merge_linear_chain remove_vertices_by_id move_from
zip-fields g s chain F = compact-fields (keeps chain) _
    record { k-is = F.k-is; supports = map-small (move_from (last_of s chain) (s ∷ chain) s) (λ e. refl) g.edges F.supports }

pub fields-kept : (k : ℕ) → KeptByEach (Fields k)
fields-kept k = record {
  diamond = λ g v F. change-fields g (diamond_change g v) (diamond-small g F.supports v) F;
  tails = λ g v F. change-fields g (tails_change g v) (tails-small g F.supports v) F;
  split = λ g v F. change-fields g (split_change g v) (split-small g F.supports v) F;
  merge = λ g v F. change-fields g (merge_change g v (incoming_nodes g v)) (merge-small g F.supports v (incoming_nodes g v)) F;
  zip = zip-fields;
}
