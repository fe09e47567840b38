-- Marks of tried vertices, and what splitting leaves. Assumes nothing.
use Rattle.std.specs.Prelude.{◌≡◌, Option as OptionOf, Some, None, true, List, [], ℕ, ◌+◌, ◌≤◌, ◌<◌, length, get_or}
use Rattle.std.proofs.Math.Option.{Option, none, some}
use Rattle.defs.specs.Lists.{rank, elem_of}
use Rattle.defs.specs.SeqGraph.{Graph, incoming_nodes, remap_numbers}
use Rattle.defs.specs.Rewrites.{try_split_common_suffix}
use Rattle.defs.specs.Simplify.{Split, first_split, split_until_complete, fuel_for}
use Rattle.store.specs.Store.{is_set, kept_by}
use Rattle.memory.specs.Memory.{graph_of, work_of, vertex_room, Holds, Ready, Left}
use Rattle.memory.specs.declared.Held.{Held}
use Rattle.memory.specs.declared.Work.{Work}

-- the marks of n vertices say which are in the list, and the list has no other vertex
pub record TriedMarks (n : ℕ) (l list : List ℕ) : Type 0 where
  pub at : (v : ℕ) → v < n → is_set (get_or l v 0) ≡ elem_of v list
  pub below : (v : ℕ) → elem_of v list ≡ true → v < n

pub record Movable (l : List ℕ) (n : ℕ) (mp : List ℕ) : Type 0 where
  pub room : n ≤ length l
  pub mp-room : n ≤ length mp

-- the marks of those that stay stand at their new numbers
pub record MarksMoved (l : List ℕ) (n : ℕ) (mp : List ℕ) (r : ℕ) (l' : List ℕ) : Type 0 where
  pub count : r ≡ rank (kept_by mp) n
  pub at : (v : ℕ) → v < n → kept_by mp v ≡ true → get_or l' (rank (kept_by mp) v) 0 ≡ get_or l v 0

-- with the marks: as they were, or those of the list under its new numbers
pub record Remarked (h : Held) (es vs p heads nexts tried : List ℕ) (v : ℕ) (r : OptionOf Held) (es' vs' tried' : List ℕ) : Type 0 where
  pub left : Left (try_split_common_suffix (graph_of h es vs p) v) es vs p heads nexts r es' vs' p
  pub same : r ≡ None → tried' ≡ tried
  pub marks : (k : Held) → r ≡ Some k → (list : List ℕ) → TriedMarks h.n tried list → TriedMarks k.n tried' (remap_numbers (incoming_nodes (graph_of h es vs p) v) list)

-- a split that was found: its graph, and the marks of its list
pub record SplitFound (o : Option Split) (g : Graph) (n : ℕ) (marks : List ℕ) : Type 0 where
  pub list : List ℕ
  pub is : o ≡ some record { graph = g; tried = list }
  pub at : TriedMarks n marks list

-- the first split: none, and every vertex marked; or the graph then held and the marks of the vertices tried
pub record SplitFirst (h : Held) (es vs p heads nexts tried : List ℕ) (r : OptionOf Held) (es' vs' tried' : List ℕ) : Type 0 where
  pub same-es : r ≡ None → es' ≡ es
  pub same-vs : r ≡ None → vs' ≡ vs
  pub no : r ≡ None → (list : List ℕ) → TriedMarks h.n tried list → first_split (graph_of h es vs p) list 0 h.n ≡ none
  pub yes : (k : Held) → r ≡ Some k → (list : List ℕ) → TriedMarks h.n tried list
      → SplitFound (first_split (graph_of h es vs p) list 0 h.n) (graph_of k es' vs' p) k.n tried'
  pub holds : (k : Held) → r ≡ Some k → Holds k es' vs' p heads nexts

-- all splits of a round, from the vertices of `list` tried
pub record SplitAll (w : Work) (es vs p : List ℕ) (r : Work) (es' vs' heads' nexts' nodes' mp' : List ℕ) : Type 0 where
  pub ready : Ready 4 r.held es' vs' p heads' nexts' nodes' mp'
  pub is : work_of r es' vs' p ≡ split_until_complete (fuel_for (graph_of w.held es vs p)) [] (work_of w es vs p)
  pub most : r.rewrites ≤ w.rewrites + vertex_room heads'
