-- The graph of a k-mer record that is converted. Assumes nothing.
use Rattle.std.specs.Prelude.{◌≡◌, Result, Ok, List, ℕ, ◌+◌, ◌*◌, ◌≤◌, ◌<◌, length, get_or}
use Rattle.defs.specs.Forms.{Form, form_of}
use Rattle.defs.specs.Record.{edges_of, decode}
use Rattle.defs.specs.Refusals.{refusal_of}
use Rattle.defs.specs.Assembly.{from_assembly_graph}
use Rattle.defs.specs.Calls.{conversion_causes}
use Rattle.record.specs.Layout.{WellFormed}
use Rattle.index.specs.Index.{Indexed}
use Rattle.memory.specs.Memory.{graph_of}
use Rattle.calls.specs.Sending.{Sendable}
use Rattle.memory.specs.declared.Held.{Held}
use Rattle.accept.specs.Accept.{RoomToMark}
use Rattle.refusal.specs.Refusals.{refused_by}
use Rattle.refusal.specs.declared.Refusal.{Refusal}
use Rattle.convert.specs.Convert.{Trimmable, Convertible}
use Rattle.read_kmers.specs.Kmers.{overlapping_causes, HoldsKmers}

-- room to read the record, for the numbers of its edges and for the sorted edges, if its layout is right
pub record RoomToConvert (bs es vs heads nexts order scratch place sorted : List ℕ) : Type 0 where
  pub reading : RoomToMark bs es vs heads nexts order scratch place
  pub order-room : WellFormed bs → edges_of bs ≤ length order
  pub scratch-room : WellFormed bs → edges_of bs ≤ length scratch
  pub sorted-room : WellFormed bs → 4 * edges_of bs ≤ length sorted

-- the number is the definition's; a converted graph is the definition's, its sequences in the record, and its own record can be written
pub record ConvertedAs (bs : List ℕ) (r : Result Held Refusal) (es vs : List ℕ) : Type 0 where
  pub number : refused_by r ≡ refusal_of (conversion_causes bs)
  pub is : (h : Held) → r ≡ Ok h → graph_of h es vs bs ≡ from_assembly_graph (decode bs)
  pub sendable : (h : Held) → r ≡ Ok h → Sendable (form_of bs) 0 h es vs bs

-- a held graph of k-mers, indexed, and room to convert it
pub record ConvertibleKmers (h : Held) (es vs heads nexts order scratch place sorted : List ℕ) : Type 0 where
  pub convertible : Convertible h.m h.n es order scratch place sorted
  pub trimmable : Trimmable h.n vs
  pub indexed : Indexed h.m h.n es heads nexts
  pub vertices : h.n ≤ 32768
  pub sizes : (v : ℕ) → v < h.n → get_or vs (2 * v + 1) 0 ≤ 128

-- what became of a held graph, for every record of this form of which it was read
pub record KmersConverted (f : Form) (h : Held) (es vs heads nexts order : List ℕ) (r : Result Held Refusal) (sorted vs' : List ℕ) : Type 0 where
  pub is : (bs : List ℕ) → f ≡ form_of bs → refusal_of (overlapping_causes bs) ≡ 0 → HoldsKmers bs h es vs heads nexts order → ConvertedAs bs r sorted vs'
