-- The sequences of a well formed record lie in it.
-- Assumes nothing.
use Prim.Native.Nat.{ℕ, ◌+◌, ◌*◌, ◌≤◌, ◌<◌}
use mathlib.Core.Path.{◌≡◌, ap, ◌∙◌}
use mathlib.Core.List.{List, []}
use native.Mathlib.Omega.{arith}
use native.Mathlib.Decide.{ℕ_discrete}
use lib.ListN.{length, drop, length-drop}
use lib.Seq.{length-take-le}
use Rattle.defs.specs.SeqGraph.{vertex_sequence}
use Rattle.defs.specs.Forms.{form_of}
use Rattle.defs.specs.Record.{kind_of, vertices_of, edges_of, bytes_of, length_at, sequence_start, sequence_at, decode}
use Rattle.tabs.proofs.Tabs.{get_or-tab}
use Rattle.tabs.proofs.SumTabs.{sum_below, sum-most}
use Rattle.record.specs.Layout.{WellFormed}
use Rattle.form.specs.declared.Form.{Form}
use Rattle.form.specs.Coded.{form_is}
use Rattle.form.proofs.FormLaws.{limits-small, between}
use Rattle.record.specs.Headed.{Headed, LengthInside, EdgeInside}
use Rattle.record.proofs.Inside.{whole-least, whole-most, whole-headed, whole-edge, whole_length_lem}
use Rattle.record.proofs.Fields.{sequence_start-is, sequence_at-is}

module _ (bs : List ℕ) (i : ℕ) (below : i < vertices_of bs) where
  -- vertex i of the graph that is read
  pub vertex-is : vertex_sequence (decode bs) i ≡ sequence_at bs i
  unfolding vertex_sequence decode
  vertex-is = get_or-tab (vertices_of bs) (sequence_at bs) i [] below

  module _ (ok : WellFormed bs) where
    pub sequence-inside : sequence_start bs i + length_at bs i ≤ length bs
    sequence-inside =
        omega (
          arith,
          sequence_start-is bs i,
          sum_below (vertices_of bs) i (length_at bs) below,
          ok.lengths,
          ok.whole,
          (between (form_of bs) (vertices_of bs) (edges_of bs) (bytes_of bs)).whole_is,
        )

    pub length-sequence : length (sequence_at bs i) ≡ length_at bs i
    length-sequence =
        ap length (sequence_at-is bs i)
        ∙ length-take-le (length_at bs i) (drop (sequence_start bs i) bs) (omega (arith, sequence-inside, length-drop (sequence_start bs i) bs))

pub length-least : (bs : List ℕ) → WellFormed bs → 32 + 2 * vertices_of bs + 9 * edges_of bs + bytes_of bs ≤ length bs
length-least bs ok = whole-least bs ok.whole

-- a k-mer graph has at most 128 bytes a vertex, a sequence graph fewer in all
pub bytes_most : (bs : List ℕ) → WellFormed bs → bytes_of bs ≤ 4194304
bytes_most bs ok =
    let most = limits-small (form_of bs) in
    elim (ℕ_discrete (kind_of bs) 0) [
      | yes z ↦ omega (
        arith,
        ok.lengths,
        ok.vertices,
        most.vertices,
        sum-most 128 (vertices_of bs) (length_at bs) (λ i b. omega (arith, ok.kmers z i b, ok.k-most)),
      )
      | no ne ↦ omega (arith, ok.bytes (omega (arith, ok.kind, ne)), most.bytes)
    ]

-- it is never longer than a k-mer graph at the limits of SGR2
pub length_most : (bs : List ℕ) → WellFormed bs → length bs ≤ 5177380
length_most bs ok =
    let most = limits-small (form_of bs) in
    omega (arith, whole-most bs ok.whole, ok.vertices, ok.edges, most.vertices, most.edges, bytes_most bs ok)

-- its fields can be read by its form
module _ {form : Form} {bs : List ℕ} (ok : WellFormed bs) (is : form_is form ≡ form_of bs) where
  pub formed-headed : Headed form bs
  formed-headed = whole-headed bs ok.whole is

  pub formed-edge : (i : ℕ) → i < edges_of bs → EdgeInside form bs i
  formed-edge = whole-edge bs ok.whole is (omega (arith, length_most bs ok))

  pub formed-length : (i : ℕ) → i < vertices_of bs → LengthInside form bs i
  formed-length = whole_length_lem bs ok.whole is (omega (arith, length_most bs ok))
