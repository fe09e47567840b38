-- What absorbing chains does to the slices: the first vertex of each takes over the sequences of the others. Assumes nothing.
use Rattle.std.specs.Prelude.{◌≡◌, List, [], ◌∷◌, ◌++◌, map, ℕ, ◌+◌, ◌*◌, ◌≤◌, ◌<◌, length, get_or, set}
use Rattle.defs.specs.Lists.{concat}
use Rattle.defs.specs.SeqGraph.{vertex_sequence}
use Rattle.defs.specs.Zip.{last_of, linear_chain}
use Rattle.all_chains.specs.AllChains.{LinearChain, chains_of, gone_of, from_after, write_chains}
use Rattle.store.specs.Store.{seq_in, seqs_in, graph_in, nums_in, Within}
use Rattle.index.specs.Index.{Indexed}
use Rattle.memory.specs.Memory.{vertex_room, graph_of}
use Rattle.memory.specs.declared.Held.{Held}
use Rattle.zip_linear_chains.specs.declared.Absorbed.{Absorbed}

-- what follows s in its chain; k and the sequences do not matter
abbrev pub chain_in : ℕ → ℕ → List ℕ → List ℕ → List ℕ → ℕ → List ℕ
chain_in m n es vs p s = linear_chain (graph_in 0 n m es vs p) s

-- what absorb_chain asks: the index, and room for the sequences of the chain behind those so far and for its vertices among those that go
pub record Absorbable (m n : ℕ) (es vs p heads nexts nodes rest froms : List ℕ) (t : Absorbed) (s : ℕ) : Type 0 where
  pub indexed : Indexed m n es heads nexts
  pub below : s < n
  pub small : n < 4294967296
  pub nodes-room : n ≤ length nodes
  pub rest-room : n ≤ length rest
  pub vs-room : 2 * n ≤ length vs
  pub froms-room : n ≤ length froms
  pub within : Within t.at n vs
  pub p-room : 2 * vertex_room heads ≤ length p
  pub p-small : 2 * vertex_room heads < 4294967296
  pub at_high : t.at ≤ 2 * vertex_room heads
  pub fits : (y : ℕ) (ys : List ℕ) → chain_in m n es vs p s ≡ y ∷ ys
      → t.at + length (concat (map (seq_in vs p) (s ∷ y ∷ ys))) ≤ 2 * vertex_room heads
  pub nodes-fit : (y : ℕ) (ys : List ℕ) → chain_in m n es vs p s ≡ y ∷ ys → t.gone + length (y ∷ ys) ≤ n
  pub countable : t.chains + 1 < 4294967296

-- s has absorbed y ∷ ys
pub record ChainAbsorbed (n : ℕ) (vs p nodes froms : List ℕ) (t : Absorbed) (s y : ℕ) (ys : List ℕ) (r : Absorbed) (vs' p' nodes' froms' :
    List ℕ) : Type 0 where
  pub verts : seqs_in n vs' p' ≡ set (seqs_in n vs p) s (concat (map (seq_in vs p) (s ∷ y ∷ ys)))
  pub within : Within r.at n vs'
  pub at-is : r.at ≡ t.at + length (concat (map (seq_in vs p) (s ∷ y ∷ ys)))
  pub gone-is : nums_in r.gone nodes' ≡ nums_in t.gone nodes ++ (y ∷ ys)
  pub handed : froms' ≡ set froms (last_of s (y ∷ ys)) s
  pub chains-is : r.chains ≡ t.chains + 1

-- no chain starts at s, and nothing changed
pub record NothingAbsorbed (vs p nodes froms : List ℕ) (t r : Absorbed) (vs' p' nodes' froms' : List ℕ) : Type 0 where
  pub same : r ≡ t
  pub same-vs : vs' ≡ vs
  pub same-p : p' ≡ p
  pub same_nodes : nodes' ≡ nodes
  pub same-froms : froms' ≡ froms

pub record AbsorbedAt (m n : ℕ) (es vs p nodes froms : List ℕ) (t : Absorbed) (s : ℕ) (r : Absorbed) (vs' p' nodes' froms' : List ℕ) : Type 0 where
  pub none : chain_in m n es vs p s ≡ [] → NothingAbsorbed vs p nodes froms t r vs' p' nodes' froms'
  pub some : (y : ℕ) (ys : List ℕ) → chain_in m n es vs p s ≡ y ∷ ys → ChainAbsorbed n vs p nodes froms t s y ys r vs' p' nodes' froms'

-- the chains of the list are absorbed: their sequences are written, the vertices that go are listed, and each vertex has where its
-- edges will leave; where the list is empty, no vertex and no byte changed
pub record ChainsAbsorbed (h : Held) (es vs₀ p₀ heads : List ℕ) (cs : List LinearChain) (t : Absorbed) (vs p nodes froms : List ℕ) : Type 0 where
  pub verts : seqs_in h.n vs p ≡ write_chains (vertex_sequence (graph_of h es vs₀ p₀)) cs (graph_of h es vs₀ p₀).verts
  pub within : Within t.at h.n vs
  pub at_high : t.at ≤ 2 * vertex_room heads
  pub gone-is : nums_in t.gone nodes ≡ gone_of cs
  pub froms-is : (u : ℕ) → u < h.n → get_or froms u 0 ≡ from_after cs u
  pub chains-is : t.chains ≡ length cs
  pub same-vs : cs ≡ [] → vs ≡ vs₀
  pub same-p : cs ≡ [] → p ≡ p₀

-- all chains of the graph
pub record AllAbsorbed (h : Held) (es vs p heads : List ℕ) (r : Absorbed) (vs' p' nodes' froms' : List ℕ) : Type 0 where
  pub absorbed : ChainsAbsorbed h es vs p heads (chains_of (graph_of h es vs p)) r vs' p' nodes' froms'
