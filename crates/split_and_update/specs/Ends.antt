-- What the edges at the middles carry, and the new edges. Assumes nothing.
use Rattle.std.specs.Prelude.{◌≡◌, Bool, true, false, cond, not, ◌||◌, List, [], ◌∷◌, ◌++◌, map, ℕ, ◌+◌, ◌*◌, ◌≤◌, ◌<◌, length, get_or, eqb, ltb}
use Rattle.defs.specs.Lists.{bit, keep_if, any_of}
use Rattle.defs.specs.SeqGraph.{Edge, EdgeData, new_edge, joined_data}
use Rattle.defs.specs.Rewrites.{MidPlan, support_one, edges_to_middles, edges_from_middles, prefix_to_suffix_from, only_if}
use Rattle.defs.specs.Record.{flag_is_ref}
use Rattle.edge_data.specs.EdgeData.{carried_data}
use Rattle.edge_data.specs.declared.Carried.{Carried}
use Rattle.store.specs.Store.{carried_at, nums_in}
use Rattle.index.specs.Index.{pair_at}
use Rattle.split_and_update.specs.Pushed.{EdgesPushed, edge_if, leaves, left_nodes}
use Rattle.split_and_update.specs.declared.Places.{Places}

-- v has an edge in, and its places in the index can be read
pub record Entered (m : ℕ) (es heads : List ℕ) (off v : ℕ) : Type 0 where
  pub off_small : off ≤ 1
  pub es-room : 4 * m ≤ length es
  pub heads-room : 2 * v + 2 ≤ length heads
  pub first : pair_at 1 heads v < m

-- what v's first edge at the end off carries; where there is none, 0 and the reference flag of the edge in
abbrev pub end_carried : ℕ → List ℕ → List ℕ → ℕ → ℕ → Carried
end_carried m es heads off v =
    cond (ltb (pair_at off heads v) m) (carried_at es (pair_at off heads v)) record { support = 0; flag = bit (flag_is_ref (get_or es (4 * pair_at 1 heads v + 3) 0)) }

abbrev pub end_data : ℕ → List ℕ → List ℕ → ℕ → ℕ → EdgeData
end_data m es heads off v = carried_data (end_carried m es heads off v)

-- a middle of which q remains
abbrev pub plan_of : ℕ → List ℕ → List ℕ → List ℕ → ℕ → MidPlan
plan_of m es heads q v = record { remaining = q; to_mid = end_data m es heads 1 v; from_mid = end_data m es heads 0 v }

-- what the edges of middles carry, whatever remains of them
abbrev pub plans_of : ℕ → List ℕ → List ℕ → List ℕ → List MidPlan
plans_of m es heads l = map (plan_of m es heads []) l

-- the nodes of which nothing remains
abbrev pub gone_nodes : List ℕ → ℕ → List ℕ → ℕ → List ℕ
gone_nodes vs cut nodes c = keep_if (λ (v : ℕ). not (leaves vs cut v)) (nums_in c nodes)

-- the first c nodes have an edge in, and their places can be read
pub record Mids (m : ℕ) (es vs heads nodes : List ℕ) (c : ℕ) : Type 0 where
  pub es-room : 4 * m ≤ length es
  pub nodes-room : c ≤ length nodes
  pub in-vs : (i : ℕ) → i < c → 2 * get_or nodes i 0 + 2 ≤ length vs
  pub in-heads : (i : ℕ) → i < c → 2 * get_or nodes i 0 + 2 ≤ length heads
  pub entered : (i : ℕ) → i < c → pair_at 1 heads (get_or nodes i 0) < m

-- what the end off of a middle carries
abbrev pub mid_data : ℕ → MidPlan → EdgeData
mid_data off q = cond (eqb off 1) q.to_mid q.from_mid

-- whether an edge at the end off of a middle is a reference edge
abbrev pub any_ref : ℕ → List MidPlan → Bool
any_ref off l = any_of (λ (q : MidPlan). (mid_data off q).is_ref) l

-- edges from u to the new middles from number j on, or from them to u
abbrev pub mid_edges : ℕ → ℕ → ℕ → List MidPlan → List Edge
mid_edges off u j l = cond (eqb off 1) (edges_to_middles u j l) (edges_from_middles j u l)

abbrev pub nothing : EdgeData
nothing = record { support = 0; is_ref = false; capped = false }

-- the edges of all middles of which nothing remains
pub record DirectIs (m : ℕ) (es vs heads nodes : List ℕ) (c cut : ℕ) (d : Carried) : Type 0 where
  pub is : carried_data d ≡ prefix_to_suffix_from nothing (plans_of m es heads (gone_nodes vs cut nodes c))

-- the new edges, in order: into the prefix, out of the suffix, into the middles, from prefix to suffix, out of the middles
abbrev pub upper : Places → ℕ
upper w = cond w.prefixed w.prefix w.top

abbrev pub lower : Places → ℕ
lower w = cond w.suffixed w.suffix w.bottom

abbrev pub direct_once : Places → EdgeData → EdgeData
direct_once w d = cond w.prefixed (joined_data d d) d

unfoldable pub update_edges : Places → List MidPlan → EdgeData → List Edge
update_edges w l d =
    only_if w.prefixed (new_edge w.top w.prefix (support_one (any_ref 1 l || d.is_ref)) ∷ [])
    ++ (only_if w.linked (new_edge w.suffix w.bottom (support_one (any_ref 0 l || d.is_ref)) ∷ [])
    ++ (edges_to_middles (upper w) w.middles l ++ (only_if w.consumed (new_edge (upper w) (lower w) (direct_once w d) ∷ [])
    ++ edges_from_middles w.middles (lower w) l)))

-- of the middles in the slices
abbrev pub update_edges_of : ℕ → List ℕ → List ℕ → List ℕ → List ℕ → ℕ → ℕ → Places → List Edge
update_edges_of m es vs heads nodes c cut w = update_edges w (plans_of m es heads (left_nodes vs cut nodes c))
    (prefix_to_suffix_from nothing (plans_of m es heads (gone_nodes vs cut nodes c)))

-- an edge behind the first k, where t holds
pub record EdgeIfPushed (k : ℕ) (es : List ℕ) (t : Bool) (a b s f k' : ℕ) (es' : List ℕ) : Type 0 where
  pub is : EdgesPushed k es (edge_if t a b s f) k' es'

-- edges between u and the middles that remain, which stand from `first` on
pub record MidsPushed (m k : ℕ) (es vs heads nodes : List ℕ) (c cut off u first k' : ℕ) (es' : List ℕ) : Type 0 where
  pub is : EdgesPushed k es (mid_edges off u first (plans_of m es heads (left_nodes vs cut nodes c))) k' es'

-- there is room for the new edges
pub record Edgeable (m : ℕ) (es vs heads nodes : List ℕ) (c cut : ℕ) (w : Places) : Type 0 where
  pub mids : Mids m es vs heads nodes c
  pub small : w.middles + c < 4294967296
  pub room : 4 * (m + length (update_edges_of m es vs heads nodes c cut w)) ≤ length es

pub record EdgesAdded (m : ℕ) (es vs heads nodes : List ℕ) (c cut : ℕ) (w : Places) (k : ℕ) (es' : List ℕ) : Type 0 where
  pub is : EdgesPushed m es (update_edges_of m es vs heads nodes c cut w) k es'

unfoldable pub is_cons : List MidPlan → Bool
is_cons [] = false
is_cons (m ∷ ms) = true
