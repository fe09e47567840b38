-- What the steps of a zip do to the slices. Assumes nothing.
use Rattle.std.specs.Prelude.{◌≡◌, cond, List, ◌∷◌, map, ℕ, ◌+◌, ◌*◌, ◌-◌, ◌≤◌, ◌<◌, length, get_or, eqb}
use Rattle.defs.specs.Lists.{concat}
use Rattle.defs.specs.SeqGraph.{Edge, keeps}
use Rattle.defs.specs.Zip.{merge_linear_chain}
use Rattle.laws.proofs.ZipLaws.{Chained}
use Rattle.store.specs.Store.{nodes_length}
use Rattle.store.specs.Store.{part, seq_in, edges_in, nums_in, kept_by, Numbered}
use Rattle.memory.specs.Memory.{graph_of, Holds}
use Rattle.memory.specs.declared.Held.{Held}

-- the sequence of v is before `at`, and there is room for it behind
pub record SequenceCopyable (vs p : List ℕ) (at v : ℕ) : Type 0 where
  pub vs-room : 2 * v + 2 ≤ length vs
  pub before : get_or vs (2 * v) 0 + get_or vs (2 * v + 1) 0 ≤ at
  pub room : at + get_or vs (2 * v + 1) 0 ≤ length p

-- it stands at `at` to r too, and nothing before `at` changed
pub record Copied (vs p : List ℕ) (at v r : ℕ) (p' : List ℕ) : Type 0 where
  pub end : r ≡ at + get_or vs (2 * v + 1) 0
  pub old : (k : ℕ) → k < at → get_or p' k 0 ≡ get_or p k 0
  pub is : part p' at (get_or vs (2 * v + 1) 0) ≡ seq_in vs p v

-- the sequences are before `used`, and there is room for them all behind
pub record ChainWritable (vs p : List ℕ) (used start : ℕ) (nodes : List ℕ) (c : ℕ) : Type 0 where
  pub nodes-room : c ≤ length nodes
  pub start-room : 2 * start + 2 ≤ length vs
  pub start-before : get_or vs (2 * start) 0 + get_or vs (2 * start + 1) 0 ≤ used
  pub vs-room : (i : ℕ) → i < c → 2 * get_or nodes i 0 + 2 ≤ length vs
  pub before : (i : ℕ) → i < c → get_or vs (2 * get_or nodes i 0) 0 + get_or vs (2 * get_or nodes i 0 + 1) 0 ≤ used
  pub room : used + get_or vs (2 * start + 1) 0 + nodes_length vs nodes c ≤ length p

pub record ChainWritten (vs p : List ℕ) (used start : ℕ) (nodes : List ℕ) (c r : ℕ) (p' : List ℕ) : Type 0 where
  pub end : r ≡ used + get_or vs (2 * start + 1) 0 + nodes_length vs nodes c
  pub old : (k : ℕ) → k < used → get_or p' k 0 ≡ get_or p k 0
  pub is : part p' used (r - used) ≡ concat (map (seq_in vs p) (start ∷ nums_in c nodes))

-- an edge out of `last` leaves `start`
abbrev pub moved_edge : ℕ → ℕ → Edge → Edge
moved_edge last start e = record { from = cond (eqb e.from last) start e.from; to = e.to; support = e.support; is_ref = e.is_ref; capped = e.capped }

pub record EdgesMoved (m : ℕ) (es : List ℕ) (last start : ℕ) (es' : List ℕ) : Type 0 where
  pub is : edges_in m es' ≡ map (moved_edge last start) (edges_in m es)

-- the first c of the nodes, at least one, are the chain behind `start`
pub record Chain (h : Held) (es vs p nodes : List ℕ) (start c : ℕ) : Type 0 where
  pub some : 1 ≤ c
  pub room : c ≤ length nodes
  pub start-below : start < h.n
  pub below : (j : ℕ) → j < c → get_or nodes j 0 < h.n
  pub chained : Chained (graph_of h es vs p) start (nums_in c nodes)

-- the slices hold the graph with the chain joined; map has the new numbers plus 1
pub record Joined (h : Held) (es vs p heads nexts nodes : List ℕ) (start c : ℕ) (r : Held) (es' vs' p' map' : List ℕ) : Type 0 where
  pub is : graph_of r es' vs' p' ≡ merge_linear_chain (graph_of h es vs p) start (nums_in c nodes)
  pub holds : Holds r es' vs' p' heads nexts
  pub fewer : r.n < h.n
  pub numbered : Numbered h.n map'
  pub kept : (v : ℕ) → v < h.n → kept_by map' v ≡ keeps (nums_in c nodes) v
