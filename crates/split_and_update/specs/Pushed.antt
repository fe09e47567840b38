-- New vertices and edges behind the old ones. Assumes nothing.
use Rattle.std.specs.Prelude.{◌≡◌, Bool, List, [], ◌∷◌, ◌++◌, map, ℕ, ◌+◌, ◌*◌, ◌-◌, ◌≤◌, ◌<◌, length, get_or, ltb}
use Rattle.defs.specs.Lists.{keep_if}
use Rattle.defs.specs.SeqGraph.{Edge}
use Rattle.defs.specs.Rewrites.{non_empty, only_if}
use Rattle.store.specs.Store.{edge, edges_in, part, seqs_in, nums_in, Within}

-- behind the first k edges stand the new ones; the numbers before stay
pub record EdgesPushed (k : ℕ) (es : List ℕ) (new : List Edge) (k' : ℕ) (es' : List ℕ) : Type 0 where
  pub count : k' ≡ k + length new
  pub len : length es' ≡ length es
  pub same : (i : ℕ) → i < 4 * k → get_or es' i 0 ≡ get_or es i 0
  pub is : edges_in k' es' ≡ edges_in k es ++ new

-- an edge, where it is to be
abbrev pub edge_if : Bool → ℕ → ℕ → ℕ → ℕ → List Edge
edge_if t a b s f = only_if t (edge a b s f ∷ [])

-- behind the first k vertices stand the new ones; the numbers before stay
pub record VertsPushed (k : ℕ) (vs p : List ℕ) (new : List (List ℕ)) (k' : ℕ) (vs' : List ℕ) : Type 0 where
  pub count : k' ≡ k + length new
  pub len : length vs' ≡ length vs
  pub same : (i : ℕ) → i < 2 * k → get_or vs' i 0 ≡ get_or vs i 0
  pub is : seqs_in k' vs' p ≡ seqs_in k vs p ++ new

-- a sequence, unless it is empty
abbrev pub filled : List ℕ → List (List ℕ)
filled q = only_if (non_empty q) (q ∷ [])

-- the bytes q as the sequence of vertex k, unless there are none, whatever the pool in which they stand from `start` on
pub record PartPushed (k : ℕ) (vs : List ℕ) (start : ℕ) (q : List ℕ) (k' : ℕ) (vs' : List ℕ) : Type 0 where
  pub is : (p : List ℕ) → part p start (length q) ≡ q → VertsPushed k vs p (filled q) k' vs'
  pub within : (used : ℕ) → start + length q ≤ used → Within used k vs → Within used k' vs'

-- where a vertex's sequence starts, and how long it is
abbrev pub start_of : List ℕ → ℕ → ℕ
start_of vs v = get_or vs (2 * v) 0

abbrev pub len_of : List ℕ → ℕ → ℕ
len_of vs v = get_or vs (2 * v + 1) 0

-- something remains of v where `cut` bytes go
abbrev pub leaves : List ℕ → ℕ → ℕ → Bool
leaves vs cut v = ltb cut (len_of vs v)

-- of the first c nodes those of which something remains
abbrev pub left_nodes : List ℕ → ℕ → List ℕ → ℕ → List ℕ
left_nodes vs cut nodes c = keep_if (leaves vs cut) (nums_in c nodes)

-- what remains of v behind x bytes and before y
abbrev pub rest_of : List ℕ → List ℕ → ℕ → ℕ → ℕ → List ℕ
rest_of vs p x y v = part p (start_of vs v + x) (len_of vs v - y - x)

-- what remains of each of c nodes can be pushed behind the first k vertices
pub record Restables (k : ℕ) (vs p nodes : List ℕ) (c x y : ℕ) : Type 0 where
  pub nodes-room : c ≤ length nodes
  pub room : 2 * (k + length (left_nodes vs (x + y) nodes c)) ≤ length vs
  pub below : (i : ℕ) → i < c → get_or nodes i 0 < k
  pub inside : (i : ℕ) → i < c → start_of vs (get_or nodes i 0) + len_of vs (get_or nodes i 0) ≤ length p
  pub small : (i : ℕ) → i < c → start_of vs (get_or nodes i 0) + len_of vs (get_or nodes i 0) < 4294967296
  pub long : (i : ℕ) → i < c → x + y ≤ len_of vs (get_or nodes i 0)

-- the first i of them are pushed
pub record RestsPushed (k : ℕ) (vs p nodes : List ℕ) (i x y k' : ℕ) (vs' : List ℕ) : Type 0 where
  pub is : VertsPushed k vs p (map (rest_of vs p x y) (left_nodes vs (x + y) nodes i)) k' vs'
  pub within : (used : ℕ) → Within used k vs → Within used k' vs'
