-- What refusal 6 means: two members of a list that are alike. Assumes nothing.
use Rattle.std.specs.Prelude.{◌≡◌, false, ℕ, ◌<◌, length, get_or}
use Rattle.defs.specs.SeqGraph.{Edge, Graph, node_count, vertex_sequence}

abbrev pub no_edge : Edge
no_edge = record { from = 0; to = 0; support = 0; is_ref = false; capped = false }

-- two edges with the same ends
pub record SameEnds (g : Graph) : Type 0 where
  pub first : ℕ
  pub second : ℕ
  pub order : first < second
  pub below : second < length g.edges
  pub from : (get_or g.edges first no_edge).from ≡ (get_or g.edges second no_edge).from
  pub to : (get_or g.edges first no_edge).to ≡ (get_or g.edges second no_edge).to

-- two vertices with the same sequence
pub record SameKmers (g : Graph) : Type 0 where
  pub first : ℕ
  pub second : ℕ
  pub order : first < second
  pub below : second < node_count g
  pub same : vertex_sequence g first ≡ vertex_sequence g second
