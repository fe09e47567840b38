-- All linear chains joined in one pass. `zip-all-is` (proofs/Zipped.antt) says that this is what `Zip.zip_linear_chains` makes,
-- which joins one chain after another.
-- Assumes nothing.
use Rattle.std.specs.Prelude.{ℕ, ◌+◌, cond, List, [], ◌∷◌, ◌++◌, map, eqb, length, set}
use Rattle.defs.specs.Lists.{concat, up_from}
use Rattle.defs.specs.SeqGraph.{Edge, Graph, node_count, vertex_sequence, remove_vertices_by_id}
use Rattle.defs.specs.Zip.{Work, last_of, linear_chain}

-- a chain of two or more: its first vertex, which stays, and those behind it, which go
pub record LinearChain : Type 0 where
  pub first : ℕ
  pub rest : List ℕ

-- the chains that start at the vertices of a list, all of them in the one graph
unfoldable pub chains_from : Graph → List ℕ → List LinearChain
chains_from g [] = []
chains_from g (s ∷ ss) = elim (linear_chain g s) [
  | [] ↦ chains_from g ss
  | v ∷ vs ↦ record { first = s; rest = v ∷ vs } ∷ chains_from g ss
]

unfoldable pub chains_of : Graph → List LinearChain
chains_of g = chains_from g (up_from 0 (node_count g))

-- the vertices that go
unfoldable pub gone_of : List LinearChain → List ℕ
gone_of [] = []
gone_of (c ∷ cs) = c.rest ++ gone_of cs

-- the vertex that an edge out of v leaves afterwards: the last vertex of a chain hands its edges to the first
unfoldable pub from_after : List LinearChain → ℕ → ℕ
from_after [] v = v
from_after (c ∷ cs) v = cond (eqb v (last_of c.first c.rest)) c.first (from_after cs v)

unfoldable pub move_from_all : List LinearChain → Edge → Edge
move_from_all cs e = record { from = from_after cs e.from; to = e.to; support = e.support; is_ref = e.is_ref; capped = e.capped }

-- what the first vertex of a chain holds afterwards, where seq are the sequences now
unfoldable pub chain_sequence : (ℕ → List ℕ) → LinearChain → List ℕ
chain_sequence seq c = concat (map seq (c.first ∷ c.rest))

-- each first vertex holds the sequences of its chain
unfoldable pub write_chains : (ℕ → List ℕ) → List LinearChain → List (List ℕ) → List (List ℕ)
write_chains seq [] vs = vs
write_chains seq (c ∷ cs) vs = write_chains seq cs (set vs c.first (chain_sequence seq c))

-- each first vertex has taken over the sequences of its chain and the edges out of its last; no vertex is gone yet
unfoldable pub absorb_chains : List LinearChain → Graph → Graph
absorb_chains cs g = record { k = g.k; verts = write_chains (vertex_sequence g) cs g.verts; edges = map (move_from_all cs) g.edges }

-- each of the chains becomes its first vertex
unfoldable pub merge_linear_chains : List LinearChain → Graph → Graph
merge_linear_chains cs g = remove_vertices_by_id (gone_of cs) (absorb_chains cs g)

-- each chain is a rewrite
unfoldable pub zip_all : Work → Work
zip_all w =
    let cs = chains_of w.graph in
    record { graph = merge_linear_chains cs w.graph; rewrites = length cs + w.rewrites }
