-- The parts of a well formed record, written again from what is read.
-- Assumes nothing.
use Prim.Native.Nat.{ℕ, ◌+◌, ◌*◌, ◌≤◌, ◌<◌}
use mathlib.Core.Path.{◌≡◌, sym, ap, ◌∙◌}
use mathlib.Core.List.{List, [], ◌∷◌, ◌++◌, map}
use native.Mathlib.Nat.{add-zero, add_assoc}
use native.Mathlib.Omega.{arith}
use lib.ListN.{length, get_or, take, drop, length-drop, take-append-drop}
use lib.Seq.{get_or-drop, take-add, take_all}
use Rattle.defs.specs.Lists.{concat, tab_from, tab, sum}
use Rattle.defs.specs.Forms.{Form, sgr1, sgr2, form_of, word_size, places, lengths_at, edge_size}
use Rattle.defs.specs.Simplify.{sequence_bytes}
use Rattle.defs.specs.Record.{kind_of, status_of, le16, le32, u32_at, word_bytes, word_at, k_of, vertices_of, edges_of, bytes_of}
use Rattle.defs.specs.Record.{lengths_offset_of, edges_offset_of, bytes_offset_of, whole_of, edges_at, bytes_at, whole_length}
use Rattle.defs.specs.Record.{flag_of, encode_edge, encode_header, length_at, sequence_at, edge_start, flag_at, edge_at}
use Rattle.laws.proofs.Flags.{flag-back}
use Rattle.tabs.proofs.Tabs.{tab-ext, take-tab}
use Rattle.tabs.proofs.SumTabs.{map-tab, bytes-sum}
use Rattle.le.proofs.LeLaws.{le16-u16_at, le32-u32_at}
use Rattle.form.proofs.FormLaws.{between, length-place, edge-place, word-written}
use Rattle.record.specs.Layout.{WellFormed}
use Rattle.record.proofs.Fields.{length_at-is, edge_start-is, flag_at-is, sequence_start-is, sequence_at-is}
use Rattle.record.proofs.Sequences.{length-sequence}
use Rattle.codec.proofs.Concat.{concat-parts, concat-widths}

-- the n bytes at o
window : (bs : List ℕ) (o n : ℕ) → o + n ≤ length bs → take n (drop o bs) ≡ tab n (λ j. get_or bs (o + j) 0)
window bs o n h =
    take-tab (drop o bs) 0 n (omega (arith, length-drop o bs))
    ∙ tab-ext n _ _ (λ j _. get_or-drop o bs j 0)

module _ (bs : List ℕ) (small : (i : ℕ) → get_or bs i 0 < 256) where
  word-bytes : (f : Form) (o : ℕ) → o + word_size f ≤ length bs → word_bytes f (word_at f bs o) ≡ take (word_size f) (drop o bs)
  word-bytes f o h = word-written bs small o f ∙ sym (window bs o (word_size f) h)

  -- an edge's bytes, and the header's, by the form
  edge-bytes : (f : Form) (o : ℕ) → o + edge_size f ≤ length bs
      → word_bytes f (word_at f bs o) ++ word_bytes f (word_at f bs (o + word_size f)) ++ le32 (u32_at bs (o + 2 * word_size f))
      ++ (get_or bs (o + 2 * word_size f + 4) 0 ∷ [])
      ≡ take (edge_size f) (drop o bs)
  unfolding word_bytes word_at word_size edge_size tab_from
  edge-bytes sgr1 o h = simp (le16-u16_at bs small, le32-u32_at bs small, window bs o 9 h, add_assoc, add-zero)
  edge-bytes sgr2 o h = simp (le32-u32_at bs small, window bs o 13 h, add_assoc, add-zero)

  header-bytes : (f : Form) → lengths_at f ≤ length bs
      → take 4 bs ++ (kind_of bs ∷ status_of bs ∷ []) ++ le16 (k_of bs)
      ++ word_bytes f (word_at f bs (places f).vertices) ++ word_bytes f (word_at f bs (places f).edges) ++ le32 (u32_at bs (places f).bytes)
      ++ le32 (u32_at bs (places f).lengths_offset) ++ le32 (u32_at bs (places f).edges_offset) ++ le32 (u32_at bs (places f).bytes_offset)
      ++ le32 (u32_at bs (places f).whole)
      ≡ take (lengths_at f) bs
  unfolding places lengths_at word_bytes word_at tab_from
  header-bytes sgr1 long = simp (le16-u16_at bs small, le32-u32_at bs small, take-tab bs 0 4 (omega arith), take-tab bs 0 32 long)
  header-bytes sgr2 long = simp (le16-u16_at bs small, le32-u32_at bs small, take-tab bs 0 4 (omega arith), take-tab bs 0 36 long)

  -- of a well formed record, whose form is f
  module _ (ok : WellFormed bs) where
    abbrev f : Form
    f = form_of bs

    abbrev v : ℕ
    v = vertices_of bs

    abbrev e : ℕ
    e = edges_of bs

    -- its parts end before it does
    edges-inside : bytes_at f v e ≤ length bs
    edges-inside = omega (arith, ok.whole, (between f v e (bytes_of bs)).whole_is)

    lengths-inside : edges_at f v ≤ length bs
    lengths-inside = omega (arith, edges-inside, (between f v e (bytes_of bs)).bytes-least)

    edge-back : (i : ℕ) → i < edges_of bs → encode_edge f (edge_at bs i) ≡ take (edge_size f) (drop (edges_at f v + edge_size f * i) bs)
    unfolding encode_edge edge_at flag_of bytes_at
    edge-back i below =
        let o : ℕ = edge_start bs i in
        let start : edge_start bs i ≡ bytes_at f v i = edge_start-is bs i in
        ap (λ (n : ℕ). word_bytes f (word_at f bs o) ++ word_bytes f (word_at f bs (o + word_size f)) ++ le32 (u32_at bs (o + 2 * word_size f)) ++ (n ∷ []))
        (flag-back (flag_at bs i) (ok.good i below).flag ∙ flag_at-is bs i)
        ∙ edge-bytes f o (omega (arith, start, edge-place v e i f below, edges-inside))
        ∙ ap (λ (n : ℕ). take (edge_size f) (drop n bs)) start

    pub header-back : encode_header f (kind_of bs) (status_of bs) (k_of bs) v e (bytes_of bs) ≡ take (lengths_at f) bs
    unfolding encode_header vertices_of edges_of bytes_of lengths_offset_of edges_offset_of bytes_offset_of whole_of
    header-back =
        let whole : whole_length f v e (bytes_of bs) ≡ whole_of bs = sym ok.whole ∙ sym ok.stated in
        (λ j. sym ok.marked j ++ (kind_of bs ∷ status_of bs ∷ []) ++ le16 (k_of bs) ++ word_bytes f v ++ word_bytes f e ++ le32 (bytes_of bs)
        ++ le32 (sym ok.lengths-at j) ++ le32 (sym ok.edges-at j) ++ le32 (sym ok.bytes-at j) ++ le32 (whole j))
        ∙ header-bytes f (omega (arith, lengths-inside, (between f v e 0).header-before))

    pub lengths-back : concat (map (λ s. word_bytes f (length s)) (tab v (sequence_at bs))) ≡ take (word_size f * v) (drop (lengths_at f) bs)
    lengths-back =
        ap concat (map-tab (λ s. word_bytes f (length s)) v (sequence_at bs) ∙ tab-ext v _ _ length_back)
        ∙ concat-widths bs (lengths_at f) (word_size f) v
      where
        length_back : (i : ℕ) → i < vertices_of bs → word_bytes f (length (sequence_at bs i)) ≡ take (word_size f) (drop (lengths_at f + word_size f * i) bs)
        length_back i below =
            ap (word_bytes f) (length-sequence bs i below ok ∙ length_at-is bs i)
            ∙ unfold edges_at in (word-bytes f (edges_at f i) (omega (arith, length-place v e i f below, lengths-inside)))

    pub edges-back : concat (map (encode_edge f) (tab e (edge_at bs))) ≡ take (edge_size f * e) (drop (edges_at f v) bs)
    edges-back =
        ap concat (map-tab (encode_edge f) e (edge_at bs) ∙ tab-ext e _ _ edge-back)
        ∙ concat-widths bs (edges_at f v) (edge_size f) e

    pub bytes_back : concat (tab v (sequence_at bs)) ≡ drop (bytes_at f v e) bs
    bytes_back =
        let s : ℕ = bytes_at f v e in
        ap concat (tab-ext v _ _ (λ i _. sequence_at-is bs i ∙ ap (λ (n : ℕ). take (length_at bs i) (drop n bs)) (sequence_start-is bs i)))
        ∙ concat-parts bs s (length_at bs) v
        ∙ take_all (sum (tab v (length_at bs))) (drop s bs)
        (omega (arith, length-drop s bs, ok.lengths, ok.whole, (between f v e (bytes_of bs)).whole_is))

    pub bytes_count : sequence_bytes (tab v (sequence_at bs)) ≡ bytes_of bs
    bytes_count =
        bytes-sum (tab v (sequence_at bs))
        ∙ ap sum (map-tab length v (sequence_at bs) ∙ tab-ext v _ _ (λ i below. length-sequence bs i below ok))
        ∙ ok.lengths

-- four parts that follow each other are the whole
pub in_parts : (bs : List ℕ) (a b c : ℕ) → take a bs ++ take b (drop a bs) ++ take c (drop (a + b) bs) ++ drop (a + b + c) bs ≡ bs
in_parts bs a b c =
    ap (λ (l : List ℕ). l ++ take c (drop (a + b) bs) ++ drop (a + b + c) bs) (sym (take-add a b bs))
    ∙ ap (λ (l : List ℕ). l ++ drop (a + b + c) bs) (sym (take-add (a + b) c bs))
    ∙ take-append-drop (a + b + c) bs
