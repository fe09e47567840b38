-- The records that simplification and cleanup write of an accepted one. Assumes nothing.
use Prim.Native.Nat.{ℕ, ◌+◌, ◌/◌, ◌≤◌}
use native.Mathlib.Omega.{arith}
use mathlib.Core.Path.{◌≡◌, refl}
use mathlib.Core.List.{List}
use Rattle.defs.specs.Forms.{Form, form_of, limits}
use Rattle.defs.specs.SeqGraph.{Graph}
use Rattle.defs.specs.Simplify.{sequence_bytes, simplify_graph_full, min_tail_suffix_len}
use Rattle.defs.specs.Cleanup.{Status, just_reference, some_variation, status_number, cleanup_seq_graph}
use Rattle.defs.specs.Record.{sequence_graph, encode, decode}
use Rattle.defs.specs.Refusals.{sequence_only, record_refusal}
use Rattle.form.proofs.FormLaws.{limits-small, limits-fit}
use Rattle.laws.proofs.Bound.{Fits}
use Rattle.laws.proofs.Room.{Narrow, limits-narrow, simplify-narrow, narrow-fits, cleanup-fits}
use Rattle.answers.proofs.Supports.{Fields}
use Rattle.answers.proofs.Answers.{simplify-fields, cleanup-fields, cleanup-bytes}
use Rattle.reread.specs.Reread.{RereadAs}
use Rattle.reread.specs.Recordable.{SequenceInput, SequenceAnswer}
use Rattle.reread.proofs.Graphs.{answer-reread}
use Rattle.reread.proofs.Read.{Bytes, sequence-input}

module _ (f : Form) (g : Graph) (I : SequenceInput f g) where
  -- what an answer may have is what the limits of input let it grow to
  narrow : Narrow (limits f).edges (limits f).bytes ((limits f).vertices + (limits f).bytes) g
  narrow = limits-narrow g I.good record { vertices = I.vertices; edges = I.edges; few = I.bytes }

  fields : Fields g.k g
  fields = record { k-is = refl; supports = I.supports }

  answer-of : (h : Graph)
      → Fits ((limits f).vertices + (limits f).bytes) ((limits f).vertices + (limits f).bytes + ((limits f).edges + (limits f).bytes / 4)) h
      → sequence_bytes h.verts ≤ (limits f).bytes → Fields g.k h → SequenceAnswer f h
  answer-of h L b F =
      let most = limits-small f in
      record {
        good = L.single;
        k-least = omega (arith, F.k-is, I.k-least);
        k-most = omega (arith, F.k-is, I.k-most);
        vertices = omega (arith, L.vertices, most.answer-vertices);
        edges = omega (arith, L.edges, most.answer-vertices, most.answer-edges);
        bytes = b;
        supports = F.supports;
      }

  pub simplified-answer : SequenceAnswer f (simplify_graph_full min_tail_suffix_len g).graph
  simplified-answer =
      let N = simplify-narrow g narrow in
      answer-of (simplify_graph_full min_tail_suffix_len g).graph (narrow-fits _ N) N.few (simplify-fields g fields)

  pub cleaned-answer : SequenceAnswer f (cleanup_seq_graph g).graph
  cleaned-answer =
      answer-of (cleanup_seq_graph g).graph (cleanup-fits (omega (arith, (limits-fit f).kmer)) g narrow) (cleanup-bytes g narrow) (cleanup-fields g fields)

status-most : (s : Status) → status_number s ≤ 2
unfolding status_number
status-most just_reference = omega arith
status-most some_variation = omega arith

module _ (bs : List ℕ) (small : Bytes bs) (ok : record_refusal sequence_only bs ≡ 0) where
  abbrev simplified_graph : Graph
  simplified_graph = (simplify_graph_full min_tail_suffix_len (decode bs)).graph

  pub simplify-within : SequenceAnswer (form_of bs) simplified_graph
  simplify-within = simplified-answer (form_of bs) (decode bs) (sequence-input bs small ok)

  pub simplify-reread : RereadAs (form_of bs) simplified_graph (encode (form_of bs) sequence_graph 0 simplified_graph)
  simplify-reread = answer-reread (form_of bs) simplified_graph simplify-within 0 (omega arith)

  abbrev cleaned : Graph
  cleaned = (cleanup_seq_graph (decode bs)).graph

  abbrev status : ℕ
  status = status_number (cleanup_seq_graph (decode bs)).status

  pub cleanup-reread : RereadAs (form_of bs) cleaned (encode (form_of bs) sequence_graph status cleaned)
  cleanup-reread = answer-reread (form_of bs) cleaned (cleaned-answer (form_of bs) (decode bs) (sequence-input bs small ok)) status
      (status-most (cleanup_seq_graph (decode bs)).status)
