-- What splitting asks and leaves. Assumes nothing.
use Rattle.std.specs.Prelude.{◌≡◌, Bool, true, false, ◌&&◌, List, [], ◌∷◌, ◌++◌, map, ℕ, ◌+◌, ◌*◌, ◌-◌, ◌≤◌, ◌<◌, length, get_or, ltb}
use Rattle.std.proofs.Math.Option.{Option, none, some}
use Rattle.defs.specs.Lists.{bit}
use Rattle.defs.specs.SeqGraph.{Graph, Change, node_count, with_additions, apply_change}
use Rattle.defs.specs.Rewrites.{split_and_update}
use Rattle.store.specs.Store.{part, nums_in, Within, EndsBelow}
use Rattle.index.specs.Index.{edge_end, incident_edges, pair_at}
use Rattle.memory.specs.Memory.{graph_of}
use Rattle.memory.specs.declared.Held.{Held}
use Rattle.shared.specs.Shared.{Parts, start_at, len_at}
use Rattle.split_and_update.specs.Pushed.{VertsPushed, filled, left_nodes, rest_of}
use Rattle.split_and_update.specs.declared.Places.{Places}
use Rattle.split_and_update.specs.declared.Added.{Added}

-- the first x bytes and the last y bytes of the first node
abbrev pub prefix_at : List ℕ → List ℕ → List ℕ → ℕ → List ℕ
prefix_at vs p nodes x = part p (start_at vs nodes 0) x

abbrev pub suffix_at : List ℕ → List ℕ → List ℕ → ℕ → List ℕ
suffix_at vs p nodes y = part p (start_at vs nodes 0 + len_at vs nodes 0 - y) y

-- the new vertices: prefix, suffix, what remains of each
abbrev pub update_verts : List ℕ → List ℕ → List ℕ → ℕ → ℕ → ℕ → List (List ℕ)
update_verts vs p nodes c x y = filled (prefix_at vs p nodes x) ++ (filled (suffix_at vs p nodes y) ++ map (rest_of vs p x y) (left_nodes vs (x + y) nodes c))

pub record Vertable (n : ℕ) (vs p nodes : List ℕ) (c x y : ℕ) : Type 0 where
  pub parts : Parts n vs p nodes c
  pub small : (i : ℕ) → i < c → start_at vs nodes i + len_at vs nodes i < 4294967296
  pub long : (i : ℕ) → i < c → x + y ≤ len_at vs nodes i
  pub room : 2 * (n + length (update_verts vs p nodes c x y)) ≤ length vs

pub record VertsAdded (n : ℕ) (vs p nodes : List ℕ) (c x y : ℕ) (r : Added) (vs' : List ℕ) : Type 0 where
  pub suffix : r.suffix ≡ bit (ltb 0 x) + n
  pub middles : r.middles ≡ bit (ltb 0 y) + r.suffix
  pub all : r.all ≡ r.middles + length (left_nodes vs (x + y) nodes c)
  pub is : VertsPushed n vs p (update_verts vs p nodes c x y) r.all vs'
  pub within : (used : ℕ) → Within used n vs → Within used r.all vs'

-- where the new vertices stand: there is a prefix where x is not 0, a suffix where y is not 0, an edge from the suffix where there is a bottom
abbrev pub places_of : ℕ → ℕ → Bool → ℕ → Added → ℕ → ℕ → ℕ → Places
places_of top bottom ends n a c x y = record {
  top = top;
  bottom = bottom;
  prefix = n;
  suffix = a.suffix;
  middles = a.middles;
  prefixed = ltb 0 x;
  suffixed = ltb 0 y;
  linked = ltb 0 y && ends;
  consumed = ltb a.all (a.middles + c);
}

-- v has one edge in, and the index has its first edge out
pub record Middle (m : ℕ) (es heads : List ℕ) (v : ℕ) : Type 0 where
  pub first : pair_at 1 heads v < m
  pub into : incident_edges (edge_end 1 es) m v ≡ pair_at 1 heads v ∷ []
  pub out : pair_at 0 heads v < m → (l : List ℕ) × (incident_edges (edge_end 0 es) m v ≡ pair_at 0 heads v ∷ l)
  pub end : m ≤ pair_at 0 heads v → incident_edges (edge_end 0 es) m v ≡ []

-- the bottom, if there is one
unfoldable pub bottom_if : Bool → ℕ → Option ℕ
bottom_if true b = some b
bottom_if false b = none

abbrev pub update_change : Graph → ℕ → Bool → ℕ → List ℕ → List ℕ → List ℕ → ℕ → ℕ → ℕ → Change
update_change g top ends bottom vs p nodes c x y = split_and_update g top (bottom_if ends bottom) (nums_in c nodes) (prefix_at vs p nodes x) (suffix_at vs p nodes y)

pub record Splittable (h : Held) (es vs p heads nodes : List ℕ) (c : ℕ) (mp : List ℕ) (top bottom : ℕ) (ends : Bool) (x y : ℕ) : Type 0 where
  pub parts : Parts h.n vs p nodes c
  pub middles : (i : ℕ) → i < c → Middle h.m es heads (get_or nodes i 0)
  pub heads-room : 2 * h.n ≤ length heads
  pub long : (i : ℕ) → i < c → x + y ≤ len_at vs nodes i
  pub some : 0 < x + y
  pub bounds : EndsBelow h.n h.m es
  pub top-old : top < h.n
  pub bottom-old : bottom < h.n
  pub no-bottom : ends ≡ false → bottom ≡ 0
  pub within : Within h.used h.n vs
  pub used-small : h.used < 4294967296
  pub es-room : 4 * length (with_additions (update_change (graph_of h es vs p) top ends bottom vs p nodes c x y) (graph_of h es vs p)).edges ≤ length es
  pub vs-room : 2 * node_count (with_additions (update_change (graph_of h es vs p) top ends bottom vs p nodes c x y) (graph_of h es vs p)) ≤ length vs
  pub mp-room : node_count (with_additions (update_change (graph_of h es vs p) top ends bottom vs p nodes c x y) (graph_of h es vs p)) ≤ length mp
  pub small : node_count (with_additions (update_change (graph_of h es vs p) top ends bottom vs p nodes c x y) (graph_of h es vs p)) + c < 4294967296

-- the slices hold the changed graph
pub record SplitDone (h : Held) (es vs p nodes : List ℕ) (c top bottom : ℕ) (ends : Bool) (x y : ℕ) (r : Held) (es' vs' : List ℕ) : Type 0 where
  pub is : graph_of r es' vs' p ≡ apply_change (graph_of h es vs p) (update_change (graph_of h es vs p) top ends bottom vs p nodes c x y)
  pub used : r.used ≡ h.used
  pub within : Within r.used r.n vs'
