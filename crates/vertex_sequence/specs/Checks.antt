-- The checks behind the layout, for a graph of either kind. Assumes nothing.
use Rattle.std.specs.Prelude.{◌≡◌, Bool, cond, ◌&&◌, ◌||◌, List, ℕ, ◌<◌}
use Rattle.defs.specs.Refusals.{both_kinds, refusal_of, layout_causes, doubled_edge, equal_kmers, has_cycle}
use Rattle.store.specs.Store.{edges_in, seqs_in, graph_in}
use Rattle.index.specs.Index.{Indexed}
use Rattle.memory.specs.declared.Held.{Held}
use Rattle.load.specs.Loaded.{Loaded}
use Rattle.doubled.specs.Doubled.{Markable}
use Rattle.cycle.specs.Peel.{Peelable}
use Rattle.accept.specs.Accept.{RoomToMark}
use Rattle.sort.specs.Sort.{Sortable}
use Rattle.kmer_order.specs.Order.{ReadableSequence}

-- a graph in slices that can be checked
pub record Checkable (m n : ℕ) (es vs p heads nexts order scratch place : List ℕ) : Type 0 where
  pub indexed : Indexed m n es heads nexts
  pub markable : Markable n scratch
  pub sortable : Sortable (ReadableSequence vs p) n order scratch
  pub peelable : Peelable n scratch place
  pub few : m < 4294967296

-- 6 for two edges with the same ends or, among k-mers, two equal ones; 7 for a cycle; else 0
pub record Checks (kmers : Bool) (m n : ℕ) (es vs p : List ℕ) (r : ℕ) : Type 0 where
  pub is : (k : ℕ) → r ≡ cond (doubled_edge (edges_in m es) || (kmers && equal_kmers (seqs_in n vs p))) 6 (cond (has_cycle (graph_in k n m es vs p)) 7 0)

-- the graph of a record whose layout is right, in the slices, and room to check it
pub record LoadedToCheck (bs : List ℕ) (h : Held) (es vs heads nexts order scratch place : List ℕ) : Type 0 where
  pub none : refusal_of (layout_causes both_kinds bs) ≡ 0
  pub loaded : Loaded bs h es vs
  pub room : RoomToMark bs es vs heads nexts order scratch place
