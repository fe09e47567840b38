-- A graph held in slices, and the room that its rewrites need. Assumes nothing.
-- The room is stated by what no rewrite raises: bytes and empty vertices, and edges less vertices plus a quarter of the bytes.
use Rattle.std.specs.Prelude.{◌≡◌, Option as OptionOf, Some, None, List, ℕ, ◌+◌, ◌*◌, ◌/◌, ◌≤◌, ◌<◌, length}
use Rattle.std.proofs.Math.Option.{Option, none, some}
use Rattle.defs.specs.SeqGraph.{Graph, node_count}
use Rattle.laws.proofs.Fuel.{Good}
use Rattle.laws.proofs.Measures.{weight, load}
use Rattle.store.specs.Store.{graph_in, Within}
use Rattle.index.specs.Index.{Indexed}
use Rattle.memory.specs.declared.Held.{Held}
use Rattle.memory.specs.declared.Work.{Work}
use Rattle.defs.specs.Zip as Z

-- the graph in the slices
abbrev pub graph_of : Held → List ℕ → List ℕ → List ℕ → Graph
graph_of h es vs p = graph_in h.k.0 h.n h.m es vs p

-- the graph in the slices and the rewrites so far
abbrev pub work_of : Work → List ℕ → List ℕ → List ℕ → Z.Work
work_of w es vs p = record { graph = graph_of w.held es vs p; rewrites = w.rewrites }

-- how many vertices and edges a graph may have between two rewrites: two numbers each in heads and nexts
abbrev pub vertex_room : List ℕ → ℕ
vertex_room heads = length heads / 2

abbrev pub edge_room : List ℕ → ℕ
edge_room nexts = length nexts / 2

-- how many numbers a signature has at most: two counts, each vertex's length and the bytes of all, three numbers for each edge
abbrev pub signature_room : List ℕ → List ℕ → ℕ
signature_room heads nexts = 2 + 2 * vertex_room heads + 3 * edge_room nexts

-- Twice as many vertices and edges while a rewrite has added its own and nothing has gone yet. The pool holds the sequences three times:
-- as they are, a new one behind them, and the copy that packs them.
pub record Room (es vs p heads nexts nodes map : List ℕ) : Type 0 where
  pub es-room : 8 * edge_room nexts ≤ length es
  pub vs-room : 4 * vertex_room heads ≤ length vs
  pub p-room : 3 * vertex_room heads ≤ length p
  pub nodes-room : edge_room nexts ≤ length nodes
  pub map-room : 2 * vertex_room heads ≤ length map
  pub vertices-edges : vertex_room heads ≤ edge_room nexts
  pub small : 8 * edge_room nexts < 4294967296

-- a sound graph that the room is for: N at most the vertices, Φ at most the edges less the vertices
pub record Fit (g : Graph) (heads nexts : List ℕ) : Type 0 where
  pub good : Good g
  pub light : weight g ≤ vertex_room heads
  pub surplus : load g + vertex_room heads ≤ node_count g + edge_room nexts

-- the held graph fits, and its sequences are parts of the pool's first `used` bytes
pub record Holds (h : Held) (es vs p heads nexts : List ℕ) : Type 0 where
  pub fit : Fit (graph_of h es vs p) heads nexts
  pub within : Within h.used h.n vs
  pub used-room : h.used ≤ vertex_room heads

-- the graph is held and indexed, and there is room; tails need a suffix of at least 4
pub record Ready (least : ℕ) (h : Held) (es vs p heads nexts nodes mp : List ℕ) : Type 0 where
  pub least-is : 3 < least
  pub room : Room es vs p heads nexts nodes mp
  pub holds : Holds h es vs p heads nexts
  pub indexed : Indexed h.m h.n es heads nexts

-- the rewrites of one stage can be counted on
pub record Counted (rewrites : ℕ) (heads : List ℕ) : Type 0 where
  pub small : rewrites + vertex_room heads < 4294967296

-- the lists of chain starts and of tried vertices have room for every vertex
pub record Scratch (heads starts tried : List ℕ) : Type 0 where
  pub starts-room : length heads ≤ 2 * length starts + 1
  pub tried-room : vertex_room heads ≤ length tried

-- so many stages of rewrites can be counted on
pub record Countable (stages rewrites : ℕ) (heads : List ℕ) : Type 0 where
  pub small : rewrites + stages * vertex_room heads < 4294967296

-- a held graph, room for its rewrites and for the lists of a round, and a least suffix of tails of 4 or more
pub record Simplifiable (least : ℕ) (h : Held) (es vs p heads nexts nodes mp starts tried sig : List ℕ) : Type 0 where
  pub least-is : 3 < least
  pub room : Room es vs p heads nexts nodes mp
  pub holds : Holds h es vs p heads nexts
  pub scratch : Scratch heads starts tried
  pub sig-room : signature_room heads nexts ≤ length sig
  pub countable : Countable 501 0 heads

-- What trying a rewrite leaves, where `o` is what the definition makes: none, and all as it was; or the graph then held.
pub record Left (o : Option Graph) (es vs p heads nexts : List ℕ) (r : OptionOf Held) (es' vs' p' : List ℕ) : Type 0 where
  pub no : r ≡ None → o ≡ none
  pub same-es : r ≡ None → es' ≡ es
  pub same-vs : r ≡ None → vs' ≡ vs
  pub same-p : r ≡ None → p' ≡ p
  pub yes : (h : Held) → r ≡ Some h → o ≡ some (graph_of h es' vs' p')
  pub holds : (h : Held) → r ≡ Some h → Holds h es' vs' p' heads nexts
