-- What a call that rewrites makes of a graph, and of a record. Assumes nothing.
use Rattle.std.specs.Prelude.{◌≡◌, Ok, List, ℕ}
use Rattle.std.specs.Prelude as std
use Rattle.defs.specs.SeqGraph.{Graph}
use Rattle.defs.specs.Simplify.{simplify_graph_full, min_tail_suffix_len, end_number}
use Rattle.defs.specs.Cleanup.{cleanup_seq_graph, status_number}
use Rattle.defs.specs.Record.{decode}
use Rattle.defs.specs.Refusals.{sequence_only, record_refusal}
use Rattle.memory.specs.Memory.{graph_of, Holds}
use Rattle.memory.specs.declared.Held.{Held}
use Rattle.refusal.specs.Refusals.{refused_by}
use Rattle.refusal.specs.declared.Refusal.{Refusal}
use Rattle.choice.specs.Choice.{HoldsLean}
use Rattle.rewriting.specs.declared.Rewritten.{Rewritten}
use Rattle.rewriting.specs.declared.RewritingCall.{RewritingCall}
use Rattle.rewriting.specs.declared.RewritingCall.TheVariants.{SimplifyGraph, CleanupSeqGraph}

-- the graph that a call makes of a graph, its status and what the call counts; a number that it does not have is 0
pub record Result : Type 0 where
  pub graph : Graph
  pub status : ℕ
  pub rewrites : ℕ
  pub rounds : ℕ
  pub end : ℕ

unfoldable pub result_of : RewritingCall → Graph → Result
result_of SimplifyGraph g =
    let s = simplify_graph_full min_tail_suffix_len g in
    record { graph = s.graph; status = 0; rewrites = s.rewrites; rounds = s.rounds; end = end_number s.end }
result_of CleanupSeqGraph g =
    let c = cleanup_seq_graph g in
    record { graph = c.graph; status = status_number c.status; rewrites = c.rewrites; rounds = 0; end = 0 }

-- the same, of what became of a graph in slices
abbrev pub result_in : Rewritten → List ℕ → List ℕ → List ℕ → Result
result_in r es vs p = record { graph = graph_of r.held es vs p; status = r.status; rewrites = r.rewrites; rounds = r.rounds; end = r.end }

-- What is held of a record for rewriting: the number is the definition's; a graph is the record's, with its sequences in the pool, and the room is
-- for it, whatever vertices go.
pub record HeldAs (bs heads nexts : List ℕ) (r : std.Result Held Refusal) (es vs p : List ℕ) : Type 0 where
  pub number : refused_by r ≡ record_refusal sequence_only bs
  pub is : (h : Held) → r ≡ Ok h → graph_of h es vs p ≡ decode bs
  pub holds : (h : Held) → r ≡ Ok h → HoldsLean h es vs p heads nexts

-- a graph that was rewritten, and is held
pub record GraphRewritten (call : RewritingCall) (h : Held) (es vs p heads nexts : List ℕ) (r : Rewritten) (es' vs' p' : List ℕ) : Type 0 where
  pub is : result_in r es' vs' p' ≡ result_of call (graph_of h es vs p)
  pub holds : Holds r.held es' vs' p' heads nexts
