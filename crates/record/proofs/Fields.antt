-- Where each field of a record stands, and that the code, which goes by the record's form, reads it there.
-- Assumes nothing.
use Prim.Native.Nat.{ℕ, ◌+◌, ◌-◌, ◌*◌, ◌≤◌, ◌<◌}
use mathlib.Core.Path.{◌≡◌, refl, sym, ap, ◌∙◌}
use mathlib.Core.List.{List}
use native.Mathlib.Omega.{arith}
use lib.ListN.{length, get_or, take, drop}
use Rattle.defs.specs.Lists.{tab, sum}
use Rattle.defs.specs.Forms.{form_of, word_size, places, lengths_at, edge_size}
use Rattle.defs.specs.Record.{u32_at, word_at, vertices_of, edges_of, bytes_of, lengths_offset_of, edges_offset_of, bytes_offset_of, whole_of}
use Rattle.defs.specs.Record.{edges_at, bytes_at, whole_length, length_at, sequence_start, sequence_at, edge_start, edge_at}
use Rattle.defs.specs.Record.{flag_is_ref, flag_is_capped, flag_at}
use Rattle.form.specs.declared.Form.{Form}
use Rattle.form.specs.Coded.{form_is}
use Rattle.form.proofs.FormLaws.{sizes, in_order, length-place, edge-place}
use Rattle.record.specs.Headed.{Headed, LengthInside, LengthsInside, EdgeInside, EdgesInside}

-- ---- where fields stand

module _ (bs : List ℕ) (i : ℕ) where
  pub length_at-is : length_at bs i ≡ word_at (form_of bs) bs (edges_at (form_of bs) i)
  unfolding length_at edges_at
  length_at-is = refl

  pub edge_start-is : edge_start bs i ≡ bytes_at (form_of bs) (vertices_of bs) i
  unfolding edge_start bytes_at
  edge_start-is = refl

  pub from_is : (edge_at bs i).from ≡ word_at (form_of bs) bs (edge_start bs i)
  unfolding edge_at
  from_is = refl

  pub to_is : (edge_at bs i).to ≡ word_at (form_of bs) bs (edge_start bs i + word_size (form_of bs))
  unfolding edge_at
  to_is = refl

  pub support-is : (edge_at bs i).support ≡ u32_at bs (edge_start bs i + 2 * word_size (form_of bs))
  unfolding edge_at
  support-is = refl

  pub flag_at-is : flag_at bs i ≡ get_or bs (edge_start bs i + 2 * word_size (form_of bs) + 4) 0
  unfolding flag_at
  flag_at-is = refl

  pub is_ref-is : (edge_at bs i).is_ref ≡ flag_is_ref (flag_at bs i)
  unfolding edge_at
  is_ref-is = refl

  pub capped_is : (edge_at bs i).capped ≡ flag_is_capped (flag_at bs i)
  unfolding edge_at
  capped_is = refl

  pub sequence_start-is : sequence_start bs i ≡ bytes_at (form_of bs) (vertices_of bs) (edges_of bs) + sum (tab i (length_at bs))
  unfolding sequence_start
  sequence_start-is = refl

  pub sequence_at-is : sequence_at bs i ≡ take (length_at bs i) (drop (sequence_start bs i) bs)
  unfolding sequence_at
  sequence_at-is = refl

-- the header's fields, by how far they stand before its end
module _ (bs : List ℕ) where
  pub vertices-are : vertices_of bs ≡ word_at (form_of bs) bs 8
  unfolding vertices_of
  vertices-are = ap (word_at (form_of bs) bs) (in_order (form_of bs)).vertices

  pub edges_are : edges_of bs ≡ word_at (form_of bs) bs (8 + word_size (form_of bs))
  unfolding edges_of
  edges_are = ap (word_at (form_of bs) bs) (in_order (form_of bs)).edges

  pub bytes-are : bytes_of bs ≡ u32_at bs (lengths_at (form_of bs) - 20)
  unfolding bytes_of
  bytes-are = ap (u32_at bs) (omega (arith, (in_order (form_of bs)).bytes, (sizes (form_of bs)).header-holds))

  pub lengths-offset-is : lengths_offset_of bs ≡ u32_at bs (lengths_at (form_of bs) - 16)
  unfolding lengths_offset_of
  lengths-offset-is = ap (u32_at bs) (omega (arith, (in_order (form_of bs)).lengths-offset, (sizes (form_of bs)).header-holds))

  pub edges-offset-is : edges_offset_of bs ≡ u32_at bs (lengths_at (form_of bs) - 12)
  unfolding edges_offset_of
  edges-offset-is = ap (u32_at bs) (omega (arith, (in_order (form_of bs)).edges_offset, (sizes (form_of bs)).header-holds))

  pub bytes-offset-is : bytes_offset_of bs ≡ u32_at bs (lengths_at (form_of bs) - 8)
  unfolding bytes_offset_of
  bytes-offset-is = ap (u32_at bs) (omega (arith, (in_order (form_of bs)).bytes-offset, (sizes (form_of bs)).header-holds))

  pub stated-is : whole_of bs ≡ u32_at bs (lengths_at (form_of bs) - 4)
  unfolding whole_of
  stated-is = ap (u32_at bs) (omega (arith, (in_order (form_of bs)).whole, (sizes (form_of bs)).header-holds))

-- ---- what the code reads

-- the code's form is the record's
module _ (form : Form) (bs : List ℕ) (is : form_is form ≡ form_of bs) where
  pub word-size-same : word_size (form_is form) ≡ word_size (form_of bs)
  word-size-same = ap word_size is

  pub header-same : lengths_at (form_is form) ≡ lengths_at (form_of bs)
  header-same = ap lengths_at is

  pub edges-at-same : (v : ℕ) → edges_at (form_is form) v ≡ edges_at (form_of bs) v
  edges-at-same v = ap (λ f. edges_at f v) is

  pub bytes-at-same : (v e : ℕ) → bytes_at (form_is form) v e ≡ bytes_at (form_of bs) v e
  bytes-at-same v e = ap (λ f. bytes_at f v e) is

  pub vertices-read : word_at (form_is form) bs 8 ≡ vertices_of bs
  vertices-read = ap (λ f. word_at f bs 8) is ∙ sym (vertices-are bs)

  -- with w bytes to a word, and a header of h bytes
  pub edges-read : {w : ℕ} → w ≡ word_size (form_is form) → word_at (form_is form) bs (8 + w) ≡ edges_of bs
  edges-read e = ap (λ n. word_at (form_is form) bs (8 + n)) e ∙ ap (λ f. word_at f bs (8 + word_size f)) is ∙ sym (edges_are bs)

  module _ {h : ℕ} (e : h ≡ lengths_at (form_is form)) where
    from_end : (n : ℕ) → u32_at bs (h - n) ≡ u32_at bs (lengths_at (form_of bs) - n)
    from_end n = ap (λ k. u32_at bs (k - n)) (e ∙ header-same)

    pub bytes_read : u32_at bs (h - 20) ≡ bytes_of bs
    bytes_read = from_end 20 ∙ sym (bytes-are bs)

    pub lengths-offset-read : u32_at bs (h - 16) ≡ lengths_offset_of bs
    lengths-offset-read = from_end 16 ∙ sym (lengths-offset-is bs)

    pub edges-offset-read : u32_at bs (h - 12) ≡ edges_offset_of bs
    edges-offset-read = from_end 12 ∙ sym (edges-offset-is bs)

    pub bytes-offset-read : u32_at bs (h - 8) ≡ bytes_offset_of bs
    bytes-offset-read = from_end 8 ∙ sym (bytes-offset-is bs)

    pub stated-read : u32_at bs (h - 4) ≡ whole_of bs
    stated-read = from_end 4 ∙ sym (stated-is bs)

  -- where edges and bytes stand, with v vertices and e edges
  pub edges-at-read : {o v : ℕ} → o ≡ edges_at (form_is form) v → v ≡ vertices_of bs → o ≡ edges_at (form_of bs) (vertices_of bs)
  edges-at-read o v = o ∙ (λ j. edges_at (is j) (v j))

  pub bytes-at-read : {o v e : ℕ} → o ≡ bytes_at (form_is form) v e → v ≡ vertices_of bs → e ≡ edges_of bs
      → o ≡ bytes_at (form_of bs) (vertices_of bs) (edges_of bs)
  bytes-at-read o v e = o ∙ (λ j. bytes_at (is j) (v j) (e j))

  pub length-read : {o : ℕ} (i : ℕ) → o ≡ edges_at (form_is form) i → word_at (form_is form) bs o ≡ length_at bs i
  length-read i e = ap (word_at (form_is form) bs) e ∙ ap (λ f. word_at f bs (edges_at f i)) is ∙ sym (length_at-is bs i)

  pub start-read : {v : ℕ} (i : ℕ) → v ≡ vertices_of bs → bytes_at (form_is form) v i ≡ edge_start bs i
  start-read i e = ap (λ n. bytes_at (form_is form) n i) e ∙ ap (λ f. bytes_at f (vertices_of bs) i) is ∙ sym (edge_start-is bs i)

  -- an edge that starts at o, with w bytes to a word
  module _ (i : ℕ) {o : ℕ} (at : o ≡ edge_start bs i) where
    pub from-read : word_at (form_is form) bs o ≡ (edge_at bs i).from
    from-read = ap (word_at (form_is form) bs) at ∙ ap (λ f. word_at f bs (edge_start bs i)) is ∙ sym (from_is bs i)

    module _ {w : ℕ} (e : w ≡ word_size (form_is form)) where
      word-is : w ≡ word_size (form_of bs)
      word-is = e ∙ word-size-same

      pub to_read : word_at (form_is form) bs (o + w) ≡ (edge_at bs i).to
      to_read = (λ j. word_at (is j) bs (at j + word-is j)) ∙ sym (to_is bs i)

      pub support-read : u32_at bs (o + 2 * w) ≡ (edge_at bs i).support
      support-read = (λ j. u32_at bs (at j + 2 * word-is j)) ∙ sym (support-is bs i)

      pub flag-read : get_or bs (o + 2 * w + 4) 0 ≡ flag_at bs i
      flag-read = (λ j. get_or bs (at j + 2 * word-is j + 4) 0) ∙ sym (flag_at-is bs i)

-- ---- what lies in the record

module _ {form : Form} {bs : List ℕ} where
  pub length-inside : {v : ℕ} → LengthsInside form bs v → (i : ℕ) → i < v → LengthInside form bs i
  length-inside {v} L i h = record {
    headed = L.headed;
    few = omega (arith, L.few);
    inside = omega (arith, L.inside, length-place v 0 i (form_of bs) h);
  }

  pub edge-inside : EdgesInside form bs → {e : ℕ} → e ≡ edges_of bs → e < 4294967296 → (i : ℕ) → i < e → EdgeInside form bs i
  edge-inside E {e} is few i h =
      let below : i < edges_of bs = omega arith in
      record {
        headed = E.headed;
        few = omega (arith, few);
        inside = omega (arith, E.inside, edge_start-is bs i, edge-place (vertices_of bs) (edges_of bs) i (form_of bs) below);
      }

  -- the fields of the header lie in it
  module _ (H : Headed form bs) where
    pub words_inside : 28 + 2 * word_size (form_is form) ≤ length bs
    words_inside = omega (arith, H.long, word-size-same form bs H.is, (sizes (form_of bs)).header-holds)

    pub header-inside : lengths_at (form_is form) ≤ length bs
    header-inside = omega (arith, H.long, header-same form bs H.is)

    pub header-long : 32 ≤ length bs
    header-long = omega (arith, H.long, (sizes (form_of bs)).header-least)

  -- and those of an edge
  module _ (i : ℕ) (E : EdgeInside form bs i) where
    pub edge-parts-inside : edge_start bs i + 2 * word_size (form_is form) + 5 ≤ length bs
    edge-parts-inside = omega (arith, E.inside, word-size-same form bs E.headed.is, (sizes (form_of bs)).edge-holds)

  pub length-part-inside : (i : ℕ) → LengthInside form bs i → edges_at (form_is form) i + word_size (form_is form) ≤ length bs
  length-part-inside i L = omega (arith, L.inside, edges-at-same form bs L.headed.is i, word-size-same form bs L.headed.is)
