-- What lies in a record whose length is what its counts say, and how long it is.
-- Assumes nothing.
use Prim.Native.Nat.{ℕ, ◌+◌, ◌*◌, ◌≤◌, ◌<◌}
use mathlib.Core.Path.{◌≡◌, refl, ◌∙◌}
use mathlib.Core.List.{List}
use native.Mathlib.Omega.{arith}
use lib.ListN.{length}
use Rattle.defs.specs.Forms.{form_of}
use Rattle.defs.specs.Record.{vertices_of, edges_of, bytes_of, bytes_at, whole_length}
use Rattle.form.specs.declared.Form.{Form}
use Rattle.form.specs.Coded.{form_is}
use Rattle.form.proofs.FormLaws.{between}
use Rattle.record.specs.Headed.{Headed, LengthInside, LengthsInside, EdgeInside}
use Rattle.record.proofs.Fields.{length-inside, edge-inside}

module _ (bs : List ℕ) (whole : length bs ≡ whole_length (form_of bs) (vertices_of bs) (edges_of bs) (bytes_of bs)) where
  pub whole_parts : length bs ≡ bytes_at (form_of bs) (vertices_of bs) (edges_of bs) + bytes_of bs
  whole_parts = whole ∙ (between (form_of bs) (vertices_of bs) (edges_of bs) (bytes_of bs)).whole_is

  -- 32 bytes at least are the header, two stand at least for each vertex and nine for each edge
  pub whole-least : 32 + 2 * vertices_of bs + 9 * edges_of bs + bytes_of bs ≤ length bs
  whole-least =
      let B = between (form_of bs) (vertices_of bs) (edges_of bs) (bytes_of bs) in
      omega (arith, whole_parts, B.edges-least, B.bytes-least)

  pub whole-most : length bs ≤ 36 + 4 * vertices_of bs + 13 * edges_of bs + bytes_of bs
  whole-most =
      let B = between (form_of bs) (vertices_of bs) (edges_of bs) (bytes_of bs) in
      omega (arith, whole_parts, B.edges_most, B.bytes_most)

  module _ {form : Form} (is : form_is form ≡ form_of bs) where
    pub whole-headed : Headed form bs
    whole-headed =
        let B = between (form_of bs) (vertices_of bs) (edges_of bs) (bytes_of bs) in
        record { is = is; long = omega (arith, whole_parts, B.header-before, B.bytes-least) }

    module _ (small : length bs < 4294967296) where
      pub whole-edge : (i : ℕ) → i < edges_of bs → EdgeInside form bs i
      whole-edge i h =
          edge-inside
          record { headed = whole-headed; inside = omega (arith, whole_parts) }
          refl
          (omega (arith, whole-least, small)) i h

      pub whole_length_lem : (i : ℕ) → i < vertices_of bs → LengthInside form bs i
      whole_length_lem i h =
          let B = between (form_of bs) (vertices_of bs) (edges_of bs) (bytes_of bs) in
          let all : LengthsInside form bs (vertices_of bs) = record {
            headed = whole-headed;
            few = omega (arith, whole-least, small);
            inside = omega (arith, whole_parts, B.bytes-least);
          } in
          length-inside all i h
