-- What is read from a graph's record, field by field, is what was written.
-- Assumes nothing.
use Prim.Native.Nat.{ℕ, ◌+◌, ◌*◌, ◌≤◌, ◌<◌}
use mathlib.Core.Path.{◌≡◌, refl, sym, ap, ◌∙◌}
use mathlib.Core.List.{List, [], ◌∷◌, ◌++◌, map, append_assoc}
use native.Mathlib.Nat.{add-zero, add_assoc}
use native.Mathlib.Omega.{arith}
use lib.ListN.{length, get_or, take, drop, length-append}
use lib.Seq.{drop-append-add}
use Rattle.defs.specs.Lists.{concat, tab, sum, same_list}
use Rattle.defs.specs.Forms.{Form, sgr1, sgr2, mark, form_of, word_size, places, lengths_at, edge_size}
use Rattle.defs.specs.SeqGraph.{Edge, Graph, node_count}
use Rattle.defs.specs.Simplify.{sequence_bytes}
use Rattle.defs.specs.Record.{RecordKind, record_kind_number, le16, le32, u16_at, u32_at, word_bytes, word_at, k_of, vertices_of, edges_of}
use Rattle.defs.specs.Record.{edges_at, bytes_at, whole_length, flag_of, flag_is_ref, flag_is_capped, encode_edge, encode_header, encode}
use Rattle.defs.specs.Record.{length_at, sequence_start, sequence_at, edge_start, flag_at, edge_at}
use Rattle.laws.proofs.ListLaws.{at_mem}
use Rattle.laws.proofs.Flags.{flag-says-ref, flag-says-capped}
use Rattle.tabs.proofs.Tabs.{tab-ext}
use Rattle.le.proofs.LeLaws.{value-of-digits}
use Rattle.form.specs.Coded.{word_limit}
use Rattle.form.proofs.FormLaws.{sizes, length-word}
use Rattle.record.proofs.Fields.{length_at-is, edge_start-is, from_is, to_is, support-is, flag_at-is, is_ref-is, capped_is, sequence_start-is, sequence_at-is}
use Rattle.codec.specs.Encodable.{EncodableEdge, Encodable}
use Rattle.codec.proofs.Concat.{Shows, shows-field, length_fields, part-of-concat}

-- a number within what stands at s
module _ (bs : List ℕ) (s : ℕ) (m : List ℕ) (shown : Shows bs s m) where
  shown-next : (j l : ℕ) → j + l < length m → get_or bs (s + j + l) 0 ≡ get_or m (j + l) 0
  shown-next j l h = ap (λ (k : ℕ). get_or bs k 0) (add_assoc s j l) ∙ shown.at (j + l) h

  u32-shown : (j : ℕ) → j + 4 ≤ length m → u32_at bs (s + j) ≡ u32_at m j
  unfolding u32_at
  u32-shown j h =
      omega (arith, shown.at j (omega arith), shown-next j 1 (omega arith), shown-next j 2 (omega arith), shown-next j 3 (omega arith))

  word-shown : (f : Form) (j : ℕ) → j + word_size f ≤ length m → word_at f bs (s + j) ≡ word_at f m j
  unfolding word_at word_size u16_at
  word-shown sgr1 j h = omega (arith, shown.at j (omega arith), shown-next j 1 (omega arith))
  word-shown sgr2 j h = u32-shown j h

  word_first : (f : Form) → word_size f ≤ length m → word_at f bs s ≡ word_at f m 0
  word_first f h = ap (word_at f bs) (sym (add-zero s)) ∙ word-shown f 0 (omega arith)

-- the header, whatever stands behind it
module _ (kind status k v e b : ℕ) where
  header-length : (f : Form) → length (encode_header f kind status k v e b) ≡ lengths_at f
  unfolding encode_header mark word_bytes lengths_at le16 le32
  header-length sgr1 = refl
  header-length sgr2 = refl

  module _ (rest : List ℕ) where
    header-form : (f : Form) → form_of (encode_header f kind status k v e b ++ rest) ≡ f
    unfolding encode_header mark form_of same_list
    header-form sgr1 = refl
    header-form sgr2 = refl

    header-k : (f : Form) → k < 65536 → k_of (encode_header f kind status k v e b ++ rest) ≡ k
    unfolding encode_header mark le16 u16_at
    header-k sgr1 h = omega arith
    header-k sgr2 h = omega arith

    header-vertices : (f : Form) → v < word_limit f → vertices_of (encode_header f kind status k v e b ++ rest) ≡ v
    unfolding encode_header mark form_of same_list vertices_of places word_limit word_bytes word_at le16 le32 u16_at u32_at
    header-vertices sgr1 h = omega arith
    header-vertices sgr2 h = value-of-digits v h

    header-edges : (f : Form) → e < word_limit f → edges_of (encode_header f kind status k v e b ++ rest) ≡ e
    unfolding encode_header mark form_of same_list edges_of places word_limit word_bytes word_at le16 le32 u16_at u32_at
    header-edges sgr1 h = omega arith
    header-edges sgr2 h = value-of-digits e h

word-own : (f : Form) (n : ℕ) → n < word_limit f → word_at f (word_bytes f n) 0 ≡ n
unfolding word_at word_bytes word_limit u16_at u32_at le16 le32
word-own sgr1 n h = omega arith
word-own sgr2 n h = value-of-digits n h

-- an edge's bytes
module _ (e : Edge) where
  edge-width : (f : Form) → length (encode_edge f e) ≡ edge_size f
  unfolding encode_edge word_bytes edge_size le16 le32
  edge-width sgr1 = refl
  edge-width sgr2 = refl

  edge-from : (f : Form) → EncodableEdge f e → word_at f (encode_edge f e) 0 ≡ e.from
  unfolding encode_edge word_bytes word_at word_limit le16 le32 u16_at u32_at
  edge-from sgr1 ok = omega (arith, ok.from)
  edge-from sgr2 ok = value-of-digits e.from ok.from

  edge_to : (f : Form) → EncodableEdge f e → word_at f (encode_edge f e) (word_size f) ≡ e.to
  unfolding encode_edge word_bytes word_at word_size word_limit le16 le32 u16_at u32_at
  edge_to sgr1 ok = omega (arith, ok.to)
  edge_to sgr2 ok = value-of-digits e.to ok.to

  edge-support : (f : Form) → EncodableEdge f e → u32_at (encode_edge f e) (2 * word_size f) ≡ e.support
  unfolding encode_edge word_bytes word_size le16 le32 u32_at
  edge-support sgr1 ok = value-of-digits e.support ok.support
  edge-support sgr2 ok = value-of-digits e.support ok.support

  edge-flag : (f : Form) → get_or (encode_edge f e) (2 * word_size f + 4) 0 ≡ flag_of e
  unfolding encode_edge word_bytes word_size le16 le32
  edge-flag sgr1 = refl
  edge-flag sgr2 = refl

same-edge : (e f : Edge) → e.from ≡ f.from → e.to ≡ f.to → e.support ≡ f.support → e.is_ref ≡ f.is_ref → e.capped ≡ f.capped → e ≡ f
same-edge e f a b s r c = λ i. record { from = a i; to = b i; support = s i; is_ref = r i; capped = c i }

length-concat : (vs : List (List ℕ)) → length (concat vs) ≡ sequence_bytes vs
unfolding concat sequence_bytes
length-concat [] = refl
length-concat (v ∷ vs) = length-append v (concat vs) ∙ ap (λ (n : ℕ). length v + n) (length-concat vs)

-- the record of a graph
module _ (f : Form) (kind : RecordKind) (status : ℕ) (g : Graph) where
  abbrev bs : List ℕ
  bs = encode f kind status g

  header : List ℕ
  header = encode_header f (record_kind_number kind) status g.k (node_count g) (length g.edges) (sequence_bytes g.verts)

  lengths : List ℕ
  lengths = concat (map (λ v. word_bytes f (length v)) g.verts)

  edges : List ℕ
  edges = concat (map (encode_edge f) g.edges)

  bytes : List ℕ
  bytes = concat g.verts

  -- the record as its parts, each in turn in the middle
  around-lengths : bs ≡ header ++ lengths ++ (edges ++ bytes)
  unfolding encode header lengths edges bytes
  around-lengths = append_assoc (header ++ lengths) edges bytes

  around-edges : bs ≡ header ++ lengths ++ edges ++ bytes
  unfolding encode header lengths edges bytes
  around-edges = refl

  behind-header : bs ≡ header ++ (lengths ++ (edges ++ bytes))
  behind-header = around-lengths ∙ append_assoc header lengths (edges ++ bytes)

  -- what is read of the header, whatever stands behind it, is read of the record
  pub of-header : {X : Type 0} (read : List ℕ → X) {x : X}
      → ((rest : List ℕ) → read (encode_header f (record_kind_number kind) status g.k (node_count g) (length g.edges) (sequence_bytes g.verts) ++ rest) ≡ x)
      → read bs ≡ x
  unfolding header
  of-header read h = ap read behind-header ∙ h _

  -- the record is of the form that it was written in
  pub form-written : form_of bs ≡ f
  form-written = of-header form_of (λ rest. header-form _ _ _ _ _ _ rest f)

  header_is : length header ≡ lengths_at f
  unfolding header
  header_is = header-length (record_kind_number kind) status g.k (node_count g) (length g.edges) (sequence_bytes g.verts) f

  lengths-is : length lengths ≡ word_size f * node_count g
  unfolding lengths node_count
  lengths-is = length_fields (λ v. word_bytes f (length v)) (word_size f) (λ v. length-word f (length v)) g.verts

  edges-is : length edges ≡ edge_size f * length g.edges
  unfolding edges
  edges-is = length_fields (encode_edge f) (edge_size f) (λ e. edge-width e f) g.edges

  -- where the edges and the bytes start
  before-edges : length (header ++ lengths) ≡ edges_at f (node_count g)
  unfolding edges_at
  before-edges = length-append header lengths ∙ (λ i. header_is i + lengths-is i)

  before-bytes : length (header ++ lengths ++ edges) ≡ bytes_at f (node_count g) (length g.edges)
  unfolding bytes_at
  before-bytes = length-append (header ++ lengths) edges ∙ (λ i. before-edges i + edges-is i)

  pub length-written : length bs ≡ whole_length f (node_count g) (length g.edges) (sequence_bytes g.verts)
  unfolding whole_length bytes
  length-written =
      ap length around-edges ∙ length-append (header ++ lengths ++ edges) bytes ∙ (λ i. before-bytes i + length-concat g.verts i)

  length-shown : (i : ℕ) → i < node_count g → Shows bs (edges_at f i) (word_bytes f (length (get_or g.verts i [])))
  unfolding lengths node_count edges_at
  length-shown i h =
      rw around-lengths
      (shows-field (λ v. word_bytes f (length v)) (word_size f) (λ v. length-word f (length v)) header (edges ++ bytes) (lengths_at f) g.verts [] i header_is h)

  module _ (ok : Encodable f g) where
    pub k-read : k_of bs ≡ g.k
    k-read = of-header (λ l. k_of l) (λ rest. header-k _ _ _ _ _ _ rest f ok.k)

    pub vertices-read : vertices_of bs ≡ node_count g
    vertices-read = of-header vertices_of (λ rest. header-vertices _ _ _ _ _ _ rest f ok.vertices)

    pub edges-read : edges_of bs ≡ length g.edges
    edges-read = of-header edges_of (λ rest. header-edges _ _ _ _ _ _ rest f ok.edges)

    pub length-read : (i : ℕ) → i < node_count g → length_at bs i ≡ length (get_or g.verts i [])
    unfolding node_count
    length-read i h =
        let n = length (get_or g.verts i []) in
        length_at-is bs i
        ∙ ap (λ (x : Form). word_at x bs (edges_at x i)) form-written
        ∙ word_first bs (edges_at f i) _ (length-shown i h) f (omega (arith, length-word f n))
        ∙ word-own f n (ok.lengths _ (at_mem [] g.verts i h))

    -- an edge starts where it was written
    start_is : (i : ℕ) → edge_start bs i ≡ bytes_at f (node_count g) i
    start_is i = edge_start-is bs i ∙ (λ j. bytes_at (form-written j) (vertices-read j) i)

    edge-shown : (d : Edge) (i : ℕ) → i < length g.edges → Shows bs (edge_start bs i) (encode_edge f (get_or g.edges i d))
    unfolding edges bytes_at
    edge-shown d i h =
        rw (start_is i, around-edges)
        (shows-field (encode_edge f) (edge_size f) (λ e. edge-width e f) (header ++ lengths) bytes (edges_at f (node_count g)) g.edges d i before-edges h)

    module _ (d : Edge) (i : ℕ) (h : i < length g.edges) where
      abbrev here : Edge
      here = get_or g.edges i d

      -- its parts lie in its bytes
      part-inside : {n : ℕ} → n ≤ 2 * word_size f + 5 → n ≤ length (encode_edge f here)
      part-inside l = omega (arith, edge-width here f, (sizes f).edge-holds)

      from-shown : (edge_at bs i).from ≡ word_at f (encode_edge f here) 0
      from-shown =
          from_is bs i
          ∙ ap (λ (x : Form). word_at x bs (edge_start bs i)) form-written
          ∙ word_first bs _ _ (edge-shown d i h) f (part-inside (omega arith))

      to-shown : (edge_at bs i).to ≡ word_at f (encode_edge f here) (word_size f)
      to-shown =
          to_is bs i
          ∙ ap (λ (x : Form). word_at x bs (edge_start bs i + word_size x)) form-written
          ∙ word-shown bs _ _ (edge-shown d i h) f (word_size f) (part-inside (omega arith))

      support-shown : (edge_at bs i).support ≡ u32_at (encode_edge f here) (2 * word_size f)
      support-shown =
          support-is bs i
          ∙ ap (λ (x : Form). u32_at bs (edge_start bs i + 2 * word_size x)) form-written
          ∙ u32-shown bs _ _ (edge-shown d i h) (2 * word_size f) (part-inside (omega arith))

      pub flag-read : flag_at bs i ≡ flag_of here
      flag-read =
          flag_at-is bs i
          ∙ ap (λ (x : Form). get_or bs (edge_start bs i + 2 * word_size x + 4) 0) form-written
          ∙ shown-next bs _ _ (edge-shown d i h) (2 * word_size f) 4 (part-inside (omega arith))
          ∙ edge-flag here f

      pub edge-read : edge_at bs i ≡ get_or g.edges i d
      unfolding flag_of
      edge-read =
          let fits : EncodableEdge f here = ok.each _ (at_mem d g.edges i h) in
          same-edge _ _
          (from-shown ∙ edge-from here f fits)
          (to-shown ∙ edge_to here f fits)
          (support-shown ∙ edge-support here f fits)
          (is_ref-is bs i ∙ ap flag_is_ref flag-read ∙ flag-says-ref here.is_ref here.capped)
          (capped_is bs i ∙ ap flag_is_capped flag-read ∙ flag-says-capped here.is_ref here.capped)

    start-read : (i : ℕ) → i < node_count g → sequence_start bs i ≡ length (header ++ lengths ++ edges) + sum (tab i (λ j. length (get_or g.verts j [])))
    start-read i h =
        let sums : sum (tab i (length_at bs)) ≡ sum (tab i (λ j. length (get_or g.verts j []))) =
        ap sum (tab-ext i _ _ (λ j below. length-read j (omega arith))) in
        sequence_start-is bs i
        ∙ (λ j. bytes_at (form-written j) (vertices-read j) (edges-read j) + sums j)
        ∙ ap (λ (n : ℕ). n + sum (tab i (λ j. length (get_or g.verts j [])))) (sym before-bytes)

    pub sequence-read : (i : ℕ) → i < node_count g → sequence_at bs i ≡ get_or g.verts i []
    unfolding bytes node_count
    sequence-read i h =
        let c : List ℕ = concat g.verts in
        let p : ℕ = sum (tab i (λ j. length (get_or g.verts j []))) in
        let q : ℕ = length (get_or g.verts i []) in
        sequence_at-is bs i
        ∙ ap (λ (n : ℕ). take n (drop (sequence_start bs i) bs)) (length-read i h)
        ∙ ap (λ (n : ℕ). take q (drop n bs)) (start-read i h)
        ∙ ap (λ (l : List ℕ). take q (drop (length (header ++ lengths ++ edges) + p) l)) around-edges
        ∙ ap (λ (l : List ℕ). take q l) (drop-append-add (header ++ lengths ++ edges) c p)
        ∙ part-of-concat g.verts i h
