-- The example of docs/METHOD.md, section 3: ACG, CGT and CGA, of which ACG leads to both others, overlap. With an edge from CGT to CGA in place of
-- the second they do not, and the converted graph would spell ACGTA, whose run GTA is no k-mer. Assumes nothing.
use Prim.Native.Nat.{ℕ}
use mathlib.Core.Path.{◌≡◌, refl}
use mathlib.Core.Bool.{true, false}
use mathlib.Core.List.{List, [], ◌∷◌, map}
use lib.ListN.{take, drop}
use Rattle.defs.specs.Lists as L
use Rattle.defs.specs.SeqGraph as G
use Rattle.defs.specs.SeqGraph.{Edge, Graph}
use Rattle.defs.specs.Strings.{spelled}
use Rattle.defs.specs.Assembly as A
use Rattle.defs.specs.Assembly.{from_assembly_graph}
use Rattle.defs.specs.Refusals as F
use Rattle.defs.specs.Refusals.{edge_without_overlap}

abbrev a : ℕ
a = 65

abbrev c : ℕ
c = 67

abbrev g : ℕ
g = 71

abbrev t : ℕ
t = 84

abbrev edge : ℕ → ℕ → Edge
edge u v = record { from = u; to = v; support = 1; is_ref = false; capped = false }

abbrev kmers : List Edge → Graph
kmers es = record { k = 3; verts = (a ∷ c ∷ g ∷ []) ∷ (c ∷ g ∷ t ∷ []) ∷ (c ∷ g ∷ a ∷ []) ∷ []; edges = es }

abbrev fork : Graph
fork = kmers (edge 0 1 ∷ edge 0 2 ∷ [])

abbrev wrong : Graph
wrong = kmers (edge 0 1 ∷ edge 1 2 ∷ [])

pub fork-overlaps : edge_without_overlap fork ≡ false
unfolding F.edge_without_overlap A.overlaps L.any_of L.same_list G.vertex_sequence
fork-overlaps = refl

pub wrong-is-found : edge_without_overlap wrong ≡ true
unfolding F.edge_without_overlap A.overlaps L.any_of L.same_list G.vertex_sequence
wrong-is-found = refl

pub fork-spells : map (spelled (from_assembly_graph fork)) ((0 ∷ 1 ∷ []) ∷ (0 ∷ 2 ∷ []) ∷ []) ≡ (a ∷ c ∷ g ∷ t ∷ []) ∷ (a ∷ c ∷ g ∷ a ∷ []) ∷ []
unfolding spelled L.concat L.keep_if L.same_list L.tab_from G.node_count G.vertex_sequence G.edges_into G.in_degree A.bytes_before A.edge_before A.insert_edge
    A.sort_edges A.edges_sorted A.additional_sequence A.from_assembly_graph
fork-spells = refl

-- the run GTA
pub wrong-run : take 3 (drop 2 (spelled (from_assembly_graph wrong) (0 ∷ 1 ∷ 2 ∷ []))) ≡ g ∷ t ∷ a ∷ []
unfolding spelled L.concat L.keep_if L.same_list L.tab_from G.node_count G.vertex_sequence G.edges_into G.in_degree A.bytes_before A.edge_before A.insert_edge
    A.sort_edges A.edges_sorted A.additional_sequence A.from_assembly_graph
wrong-run = refl
