-- What is read of a written record: its kind, status, byte count, offsets, length and flags. Assumes nothing.
use Prim.Native.Nat.{ℕ, ◌+◌, ◌≤◌, ◌<◌}
use native.Mathlib.Omega.{arith}
use mathlib.Core.Path.{◌≡◌, refl, sym, ap, ◌∙◌}
use mathlib.Core.List.{List, [], ◌++◌, map}
use lib.ListN.{length, get_or, take}
use Rattle.defs.specs.Lists.{tab, sum, same_list}
use Rattle.defs.specs.Forms.{Form, sgr1, sgr2, mark, form_of, places, lengths_at}
use Rattle.defs.specs.SeqGraph.{Graph, node_count}
use Rattle.defs.specs.Simplify.{sequence_bytes}
use Rattle.defs.specs.Record.{RecordKind, record_kind_number, kind_of, status_of, vertices_of, bytes_of, lengths_offset_of, edges_offset_of, bytes_offset_of, whole_of}
use Rattle.defs.specs.Record.{le16, le32, u32_at, word_bytes, edges_at, bytes_at, whole_length, encode_header, encode, length_at, flag_at}
use Rattle.laws.proofs.Flags.{flag_small}
use Rattle.tabs.proofs.Tabs.{tab-ext, tab-get_or}
use Rattle.tabs.proofs.SumTabs.{map-tab, bytes-sum}
use Rattle.le.proofs.LeLaws.{value-of-digits}
use Rattle.form.proofs.FormLaws.{between}
use Rattle.codec.specs.Encodable.{Encodable}
use Rattle.codec.proofs.Encoded.{of-header, length-written, vertices-read, length-read, flag-read}
use Rattle.sound.specs.Alike.{no_edge}

-- the header, whatever stands behind it
module _ (kind status k v e b : ℕ) (rest : List ℕ) where
  abbrev bytes : Form → List ℕ
  bytes f = encode_header f kind status k v e b ++ rest

  header-mark : (f : Form) → take 4 (bytes f) ≡ mark f
  unfolding encode_header mark
  header-mark sgr1 = refl
  header-mark sgr2 = refl

  header-kind : (f : Form) → kind_of (bytes f) ≡ kind
  unfolding encode_header mark
  header-kind sgr1 = refl
  header-kind sgr2 = refl

  header-status : (f : Form) → status_of (bytes f) ≡ status
  unfolding encode_header mark
  header-status sgr1 = refl
  header-status sgr2 = refl

  header-bytes : (f : Form) → b < 4294967296 → bytes_of (bytes f) ≡ b
  unfolding encode_header mark form_of same_list bytes_of places word_bytes le16 le32 u32_at
  header-bytes sgr1 h = value-of-digits b h
  header-bytes sgr2 h = value-of-digits b h

  header-lengths-at : (f : Form) → lengths_offset_of (bytes f) ≡ lengths_at f
  unfolding encode_header mark form_of same_list lengths_offset_of places lengths_at word_bytes le16 le32 u32_at
  header-lengths-at sgr1 = refl
  header-lengths-at sgr2 = refl

  header-edges-at : (f : Form) → edges_at f v < 4294967296 → edges_offset_of (bytes f) ≡ edges_at f v
  unfolding encode_header mark form_of same_list edges_offset_of places word_bytes le16 le32 u32_at
  header-edges-at sgr1 h = value-of-digits (edges_at sgr1 v) h
  header-edges-at sgr2 h = value-of-digits (edges_at sgr2 v) h

  header-bytes-at : (f : Form) → bytes_at f v e < 4294967296 → bytes_offset_of (bytes f) ≡ bytes_at f v e
  unfolding encode_header mark form_of same_list bytes_offset_of places word_bytes le16 le32 u32_at
  header-bytes-at sgr1 h = value-of-digits (bytes_at sgr1 v e) h
  header-bytes-at sgr2 h = value-of-digits (bytes_at sgr2 v e) h

  header-whole : (f : Form) → whole_length f v e b < 4294967296 → whole_of (bytes f) ≡ whole_length f v e b
  unfolding encode_header mark form_of same_list whole_of places word_bytes le16 le32 u32_at
  header-whole sgr1 h = value-of-digits (whole_length sgr1 v e b) h
  header-whole sgr2 h = value-of-digits (whole_length sgr2 v e b) h

module _ (f : Form) (kind : RecordKind) (status : ℕ) (g : Graph) where
  abbrev bs : List ℕ
  bs = encode f kind status g

  pub mark-written : take 4 bs ≡ mark f
  mark-written = of-header f kind status g (take 4) (λ rest. header-mark _ _ _ _ _ _ rest f)

  pub kind-written : kind_of bs ≡ record_kind_number kind
  kind-written = of-header f kind status g (λ l. kind_of l) (λ rest. header-kind _ _ _ _ _ _ rest f)

  pub status-written : status_of bs ≡ status
  status-written = of-header f kind status g (λ l. status_of l) (λ rest. header-status _ _ _ _ _ _ rest f)

  module _ (small : whole_length f (node_count g) (length g.edges) (sequence_bytes g.verts) < 4294967296) where
    -- the parts end where the record does, or before
    bytes_small : bytes_at f (node_count g) (length g.edges) + sequence_bytes g.verts < 4294967296
    bytes_small = omega (arith, small, (between f (node_count g) (length g.edges) (sequence_bytes g.verts)).whole_is)

    edges-small : edges_at f (node_count g) < 4294967296
    edges-small = omega (arith, bytes_small, (between f (node_count g) (length g.edges) (sequence_bytes g.verts)).bytes-least)

    pub bytes-written : bytes_of bs ≡ sequence_bytes g.verts
    bytes-written = of-header f kind status g bytes_of (λ rest. header-bytes _ _ _ _ _ _ rest f (omega (arith, bytes_small)))

    pub lengths-at-written : lengths_offset_of bs ≡ lengths_at f
    lengths-at-written = of-header f kind status g lengths_offset_of (λ rest. header-lengths-at _ _ _ _ _ _ rest f)

    pub edges-at-written : edges_offset_of bs ≡ edges_at f (node_count g)
    edges-at-written = of-header f kind status g edges_offset_of (λ rest. header-edges-at _ _ _ _ _ _ rest f edges-small)

    pub bytes-at-written : bytes_offset_of bs ≡ bytes_at f (node_count g) (length g.edges)
    bytes-at-written = of-header f kind status g bytes_offset_of (λ rest. header-bytes-at _ _ _ _ _ _ rest f (omega (arith, bytes_small)))

    pub stated-written : whole_of bs ≡ length bs
    stated-written = of-header f kind status g whole_of (λ rest. header-whole _ _ _ _ _ _ rest f small) ∙ sym (length-written f kind status g)

  module _ (ok : Encodable f g) where
    pub flag-written : (i : ℕ) → i < length g.edges → flag_at bs i ≤ 3
    flag-written i h = omega (arith, flag-read f kind status g ok no_edge i h, flag_small (get_or g.edges i no_edge))

    pub sum-written : sum (tab (vertices_of bs) (length_at bs)) ≡ sequence_bytes g.verts
    unfolding node_count
    sum-written =
        ap (λ (n : ℕ). sum (tab n (length_at bs))) (vertices-read f kind status g ok)
        ∙ ap sum (tab-ext (length g.verts) (length_at bs) (λ (i : ℕ). length (get_or g.verts i [])) (length-read f kind status g ok))
        ∙ ap sum (sym (map-tab length (length g.verts) (λ (i : ℕ). get_or g.verts i [])))
        ∙ ap (λ (l : List (List ℕ)). sum (map length l)) (tab-get_or g.verts [])
        ∙ sym (bytes-sum g.verts)
