-- Laws of the two forms. Each goes by the form, where its places are numbers; what stands above cites them for any form.
-- Assumes nothing.
use Prim.Native.Nat.{ℕ, ◌+◌, ◌*◌, ◌/◌, ◌≤◌, ◌<◌}
use mathlib.Core.Path.{◌≡◌, refl, sym, ap, ◌∙◌}
use mathlib.Core.Bool.{Bool, true, false, ◌&&◌}
use mathlib.Core.List.{List, [], ◌∷◌, ◌++◌}
use native.Mathlib.Nat.{add-zero}
use native.Mathlib.Omega.{arith}
use lib.Dec.{eqb}
use lib.ListN.{length, get_or, take}
use borrow.Author.Tests.{eq-eqb, ne_eqb}
use Rattle.defs.specs.Lists.{tab_from, tab, same_list}
use Rattle.defs.specs.Forms.{sgr1, sgr2, mark, form_of, word_size, places, lengths_at, edge_size, limits}
use Rattle.defs.specs.Forms as forms
use Rattle.defs.specs.Record.{le16, le32, u16_at, u32_at, word_bytes, word_at, edges_at, bytes_at, whole_length}
use Rattle.le.proofs.LeLaws.{length-le16, length-le32, le16-u16_at, le32-u32_at}
use Rattle.form.specs.declared.Form.{Form}
use Rattle.form.specs.declared.Form.TheVariants.{Sgr1, Sgr2}
use Rattle.form.specs.Coded.{form_is, word_limit}

-- ---- sizes

pub length-word : (f : forms.Form) (n : ℕ) → length (word_bytes f n) ≡ word_size f
unfolding word_bytes word_size
length-word sgr1 n = length-le16 n
length-word sgr2 n = length-le32 n

pub length-mark : (f : forms.Form) → length (mark f) ≡ 4
unfolding mark
length-mark sgr1 = refl
length-mark sgr2 = refl

-- what is read from bytes fits a word, and is written as those bytes
module _ (bs : List ℕ) (small : (i : ℕ) → get_or bs i 0 < 256) (i : ℕ) where
  pub word_small : (f : forms.Form) → word_at f bs i < word_limit f
  unfolding word_at word_limit u16_at u32_at
  word_small sgr1 = omega (arith, small i, small (i + 1))
  word_small sgr2 = omega (arith, small i, small (i + 1), small (i + 2), small (i + 3))

  pub word-written : (f : forms.Form) → word_bytes f (word_at f bs i) ≡ tab (word_size f) (λ j. get_or bs (i + j) 0)
  unfolding word_bytes word_at word_size tab_from
  word-written sgr1 = le16-u16_at bs small i ∙ ap (λ (n : ℕ). get_or bs n 0 ∷ get_or bs (i + 1) 0 ∷ []) (sym (add-zero i))
  word-written sgr2 =
      le32-u32_at bs small i
      ∙ ap (λ (n : ℕ). get_or bs n 0 ∷ get_or bs (i + 1) 0 ∷ get_or bs (i + 2) 0 ∷ get_or bs (i + 3) 0 ∷ []) (sym (add-zero i))

-- a word has two bytes or four, and what fits it fits four
pub record SmallSizes (f : forms.Form) : Type 0 where
  pub word-least : 2 ≤ word_size f
  pub word-most : word_size f ≤ 4
  pub header-least : 32 ≤ lengths_at f
  pub header-most : lengths_at f ≤ 36
  pub header-holds : 28 + 2 * word_size f ≡ lengths_at f
  pub edge-holds : 2 * word_size f + 5 ≡ edge_size f
  pub limit-least : 65536 ≤ word_limit f
  pub limit-most : word_limit f ≤ 4294967296

pub sizes : (f : forms.Form) → SmallSizes f
unfolding word_size lengths_at edge_size word_limit
sizes sgr1 = record {
  word-least = omega arith;
  word-most = omega arith;
  header-least = omega arith;
  header-most = omega arith;
  header-holds = refl;
  edge-holds = refl;
  limit-least = omega arith;
  limit-most = omega arith;
}
sizes sgr2 = record {
  word-least = omega arith;
  word-most = omega arith;
  header-least = omega arith;
  header-most = omega arith;
  header-holds = refl;
  edge-holds = refl;
  limit-least = omega arith;
  limit-most = omega arith;
}

-- ---- limits

-- no limit of input is past those of SGR2, nor is what an answer has of vertices and edges past what those of its input let it grow to
pub record SmallLimits (f : forms.Form) : Type 0 where
  pub vertices : (limits f).vertices ≤ 32768
  pub edges : (limits f).edges ≤ 65536
  pub bytes : (limits f).bytes ≤ 131072
  pub answer-vertices : (limits f).answer_vertices ≡ (limits f).vertices + (limits f).bytes
  pub answer-edges : (limits f).answer_edges ≡ (limits f).answer_vertices + ((limits f).edges + (limits f).bytes / 4)

pub limits-small : (f : forms.Form) → SmallLimits f
unfolding limits
limits-small sgr1 = record { vertices = omega arith; edges = omega arith; bytes = omega arith; answer-vertices = refl; answer-edges = refl }
limits-small sgr2 = record { vertices = omega arith; edges = omega arith; bytes = omega arith; answer-vertices = refl; answer-edges = refl }

-- what the limits allow fits its field, and a k-mer keeps the limit of bytes
pub record LimitsFit (f : forms.Form) : Type 0 where
  pub vertices : (limits f).answer_vertices < word_limit f
  pub edges : (limits f).answer_edges < word_limit f
  pub bytes : (limits f).bytes < word_limit f
  pub kmer : 128 ≤ (limits f).bytes

pub limits-fit : (f : forms.Form) → LimitsFit f
unfolding limits word_limit
limits-fit sgr1 = record { vertices = omega arith; edges = omega arith; bytes = omega arith; kmer = omega arith }
limits-fit sgr2 = record { vertices = omega arith; edges = omega arith; bytes = omega arith; kmer = omega arith }

-- ---- places

-- the header's fields, in their order, each where the one before ends
pub record FieldsInOrder (f : forms.Form) : Type 0 where
  pub vertices : (places f).vertices ≡ 8
  pub edges : (places f).edges ≡ 8 + word_size f
  pub bytes : (places f).bytes ≡ 8 + 2 * word_size f
  pub lengths-offset : (places f).lengths_offset ≡ 12 + 2 * word_size f
  pub edges_offset : (places f).edges_offset ≡ 16 + 2 * word_size f
  pub bytes-offset : (places f).bytes_offset ≡ 20 + 2 * word_size f
  pub whole : (places f).whole ≡ 24 + 2 * word_size f

pub in_order : (f : forms.Form) → FieldsInOrder f
unfolding places word_size
in_order sgr1 = record {
  vertices = refl;
  edges = refl;
  bytes = refl;
  lengths-offset = refl;
  edges_offset = refl;
  bytes-offset = refl;
  whole = refl;
}
in_order sgr2 = record {
  vertices = refl;
  edges = refl;
  bytes = refl;
  lengths-offset = refl;
  edges_offset = refl;
  bytes-offset = refl;
  whole = refl;
}

-- a length and an edge lie before what comes next
module _ (v e i : ℕ) where
  pub length-place : (f : forms.Form) → i < v → edges_at f i + word_size f ≤ edges_at f v
  unfolding edges_at lengths_at word_size
  length-place sgr1 h = omega arith
  length-place sgr2 h = omega arith

  pub edge-place : (f : forms.Form) → i < e → bytes_at f v i + edge_size f ≤ bytes_at f v e
  unfolding bytes_at edges_at lengths_at word_size edge_size
  edge-place sgr1 h = omega arith
  edge-place sgr2 h = omega arith

-- where each part stands, between the places that the two forms give it
pub record PlacesBetween (f : forms.Form) (v e b : ℕ) : Type 0 where
  pub edges-least : 32 + 2 * v ≤ edges_at f v
  pub edges_most : edges_at f v ≤ 36 + 4 * v
  pub bytes-least : edges_at f v + 9 * e ≤ bytes_at f v e
  pub bytes_most : bytes_at f v e ≤ edges_at f v + 13 * e
  pub whole_is : whole_length f v e b ≡ bytes_at f v e + b
  pub header-before : lengths_at f ≤ edges_at f v

pub between : (f : forms.Form) (v e b : ℕ) → PlacesBetween f v e b
unfolding whole_length bytes_at edges_at lengths_at word_size edge_size
between sgr1 v e b = record {
  edges-least = omega arith;
  edges_most = omega arith;
  bytes-least = omega arith;
  bytes_most = omega arith;
  whole_is = refl;
  header-before = omega arith;
}
between sgr2 v e b = record {
  edges-least = omega arith;
  edges_most = omega arith;
  bytes-least = omega arith;
  bytes_most = omega arith;
  whole_is = refl;
  header-before = omega arith;
}

-- ---- the mark

both : (t a : Bool) → elim t [ true ↦ a | false ↦ false ] ≡ (t && a)
both true a = refl
both false a = refl

and_yes : (t : Bool) → (t && true) ≡ t
and_yes true = refl
and_yes false = refl

and_no : (t : Bool) → (t && false) ≡ false
and_no true = refl
and_no false = refl

pub same-cons : (x y : ℕ) (xs ys : List ℕ) → same_list (x ∷ xs) (y ∷ ys) ≡ (eqb x y && same_list xs ys)
unfolding same_list
same-cons x y xs ys = both (eqb x y) (same_list xs ys)

same-nil : same_list [] [] ≡ true
unfolding same_list
same-nil = refl

same-short : (y : ℕ) (ys : List ℕ) → same_list [] (y ∷ ys) ≡ false
unfolding same_list
same-short y ys = refl

four : (bs : List ℕ) → 4 ≤ length bs → take 4 bs ≡ get_or bs 0 0 ∷ get_or bs 1 0 ∷ get_or bs 2 0 ∷ get_or bs 3 0 ∷ []
four [] h = absurd (omega arith)
four (a ∷ []) h = absurd (omega arith)
four (a ∷ b ∷ []) h = absurd (omega arith)
four (a ∷ b ∷ c ∷ []) h = absurd (omega arith)
four (a ∷ b ∷ c ∷ d ∷ bs) h = refl

four-of : (m : List ℕ) → length m ≡ 4 → m ≡ get_or m 0 0 ∷ get_or m 1 0 ∷ get_or m 2 0 ∷ get_or m 3 0 ∷ []
four-of [] h = absurd (omega arith)
four-of (a ∷ []) h = absurd (omega arith)
four-of (a ∷ b ∷ []) h = absurd (omega arith)
four-of (a ∷ b ∷ c ∷ []) h = absurd (omega arith)
four-of (a ∷ b ∷ c ∷ d ∷ []) h = refl
four-of (a ∷ b ∷ c ∷ d ∷ e ∷ m) h = absurd (omega arith)

-- a list of fewer than four bytes has no mark
short-mark : (bs : List ℕ) → length bs < 4 → same_list (take 4 bs) (mark sgr2) ≡ false
unfolding mark
short-mark [] h = same-short 83 _
short-mark (a ∷ []) h = simp (same-cons, same-short, and_no)
short-mark (a ∷ b ∷ []) h = simp (same-cons, same-short, and_no)
short-mark (a ∷ b ∷ c ∷ []) h = simp (same-cons, same-short, and_no)
short-mark (a ∷ b ∷ c ∷ d ∷ bs) h = absurd (omega arith)

-- the form by the mark
by-mark : (bs : List ℕ) (t : Bool) → same_list (take 4 bs) (mark sgr2) ≡ t → form_of bs ≡ elim t [ true ↦ sgr2 | false ↦ sgr1 ]
unfolding form_of
by-mark bs t e = rw (e, form_of) refl

pub form-short : (bs : List ℕ) → length bs < 4 → form_is Sgr1 ≡ form_of bs
unfolding form_is
form-short bs h = sym (by-mark bs false (short-mark bs h))

pub form-marked : (bs : List ℕ) → same_list (take 4 bs) (mark sgr2) ≡ true → form_is Sgr2 ≡ form_of bs
unfolding form_is
form-marked bs h = sym (by-mark bs true h)

pub form-other : (bs : List ℕ) → same_list (take 4 bs) (mark sgr2) ≡ false → form_is Sgr1 ≡ form_of bs
unfolding form_is
form-other bs h = sym (by-mark bs false h)

-- a record is of the form whose mark it begins with
pub form-of-mark : (f : forms.Form) (rest : List ℕ) → form_of (mark f ++ rest) ≡ f
unfolding form_of mark same_list
form-of-mark sgr1 rest = refl
form-of-mark sgr2 rest = refl

-- ---- the code's form, by its value

module _ (form : Form) where
  pub is-1 : form ≡ Sgr1 → form_is form ≡ sgr1
  unfolding form_is
  is-1 e = rw e refl

  pub is-2 : form ≡ Sgr2 → form_is form ≡ sgr2
  unfolding form_is
  is-2 e = rw e refl

  module _ (e : form ≡ Sgr1) where
    pub word-1 : word_size (form_is form) ≡ 2
    unfolding word_size
    word-1 = rw (is-1 e) refl

    pub lengths-1 : lengths_at (form_is form) ≡ 32
    unfolding lengths_at
    lengths-1 = rw (is-1 e) refl

    pub edges-1 : (v : ℕ) → edges_at (form_is form) v ≡ 32 + 2 * v
    unfolding edges_at lengths_at word_size
    edges-1 v = rw (is-1 e) refl

    pub bytes-1 : (v m : ℕ) → bytes_at (form_is form) v m ≡ 32 + 2 * v + 9 * m
    unfolding bytes_at edges_at lengths_at word_size edge_size
    bytes-1 v m = rw (is-1 e) refl

    pub read-1 : (bs : List ℕ) (i : ℕ) → u16_at bs i ≡ word_at (form_is form) bs i
    unfolding word_at
    read-1 bs i = rw (is-1 e) refl

    pub written-1 : (n : ℕ) → le16 n ≡ word_bytes (form_is form) n
    unfolding word_bytes
    written-1 n = rw (is-1 e) refl

    pub most-vertices-1 : (limits (form_is form)).vertices ≡ 2048
    unfolding limits
    most-vertices-1 = rw (is-1 e) refl

    pub most-edges-1 : (limits (form_is form)).edges ≡ 4096
    unfolding limits
    most-edges-1 = rw (is-1 e) refl

    pub most-bytes-1 : (limits (form_is form)).bytes ≡ 8192
    unfolding limits
    most-bytes-1 = rw (is-1 e) refl

    pub limit-1 : word_limit (form_is form) ≡ 65536
    unfolding word_limit
    limit-1 = rw (is-1 e) refl

  module _ (e : form ≡ Sgr2) where
    pub word-2 : word_size (form_is form) ≡ 4
    unfolding word_size
    word-2 = rw (is-2 e) refl

    pub lengths-2 : lengths_at (form_is form) ≡ 36
    unfolding lengths_at
    lengths-2 = rw (is-2 e) refl

    pub edges-2 : (v : ℕ) → edges_at (form_is form) v ≡ 36 + 4 * v
    unfolding edges_at lengths_at word_size
    edges-2 v = rw (is-2 e) refl

    pub bytes_2 : (v m : ℕ) → bytes_at (form_is form) v m ≡ 36 + 4 * v + 13 * m
    unfolding bytes_at edges_at lengths_at word_size edge_size
    bytes_2 v m = rw (is-2 e) refl

    pub most-vertices-2 : (limits (form_is form)).vertices ≡ 32768
    unfolding limits
    most-vertices-2 = rw (is-2 e) refl

    pub most-edges-2 : (limits (form_is form)).edges ≡ 65536
    unfolding limits
    most-edges-2 = rw (is-2 e) refl

    pub most-bytes-2 : (limits (form_is form)).bytes ≡ 131072
    unfolding limits
    most-bytes-2 = rw (is-2 e) refl

    pub read-2 : (bs : List ℕ) (i : ℕ) → u32_at bs i ≡ word_at (form_is form) bs i
    unfolding word_at
    read-2 bs i = rw (is-2 e) refl

    pub written_2 : (n : ℕ) → le32 n ≡ word_bytes (form_is form) n
    unfolding word_bytes
    written_2 n = rw (is-2 e) refl
