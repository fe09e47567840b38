-- Texts put one behind the other. Assumes nothing.
use mathlib.Core.Path.{◌≡◌, refl, sym, ap, ◌∙◌, subst}
use mathlib.Core.Bool.{Bool, true, false}
use mathlib.Core.List.{List, [], ◌∷◌, ◌++◌, map}
use Prim.Native.Nat.{ℕ, zero, suc, ◌+◌, ◌-◌, ◌*◌, ◌/◌, ◌%◌, ◌≤◌, ◌<◌}
use native.Mathlib.Omega.{arith}
use lib.Dec.{ltb}
use lib.ListN.{length, get_or, set, take, drop, length-append}
use borrow.Rule.Slice.PartMut.{put_mid}
use Rattle.std.proofs.lemmas.Slice.{put_mid-paste}
use Rattle.std.specs.Char.{is_ascii_alphabetic}
use lib.Seq.{sets-eq, length-sets, take_all}
use borrow.Author.Tests.{ltb-true, ltb-false, lt-ltb, le-ltb}
use Rattle.defs.specs.Lists.{concat, tab, tab_from}
use Rattle.laws.proofs.Walks.{by_test}
use Rattle.write_record.proofs.WriteLaws.{put-behind}
use Rattle.tabs.proofs.Tabs.{tab-get_or}
use Rattle.tabs.proofs.SumTabs.{map-tab, fields-none, fields-more}
use Rattle.text.specs.Printed.{ascii, digit, decimal_by, decimal, is_letter, printed_byte, printed_sequence}
use Rattle.text.specs.Put.{TextPut}

-- ---- one behind the other

pub put_one : (text : List ℕ) (at r : ℕ) {x y : ℕ} → x ≡ y → r ≡ at + 1 → TextPut 1 (y ∷ []) text at r (set text at x)
put_one text at r e q = record { size = omega arith; end = q; is = ap (set text at) e }

pub put_then : {a b : ℕ} {s t text text' text'' : List ℕ} {at r r' : ℕ} → TextPut a s text at r text' → TextPut b t text' r r' text''
    → TextPut (a + b) (s ++ t) text at r' text''
put_then {s = s} {t = t} {text = text} {at = at} {r = r} P Q = record {
  size = omega (arith, length-append s t, P.size, Q.size);
  end = omega (arith, length-append s t, P.end, Q.end);
  is = put-behind text s t at r P.is Q.is P.end;
}

pub put_as : {a : ℕ} {s t text text' : List ℕ} {at r : ℕ} → s ≡ t → TextPut a s text at r text' → TextPut a t text at r text'
put_as q P = rw q at P

pub put-most : {a b : ℕ} {s text text' : List ℕ} {at r : ℕ} → a ≤ b → TextPut a s text at r text' → TextPut b s text at r text'
put-most h P = record { size = omega (arith, P.size); end = P.end; is = P.is }

pub put-size : {a b : ℕ} {s text text' : List ℕ} {at r : ℕ} → length s ≤ b → TextPut a s text at r text' → TextPut b s text at r text'
put-size h P = record { size = h; end = P.end; is = P.is }

pub put-long : {a : ℕ} {s text text' : List ℕ} {at r : ℕ} → TextPut a s text at r text' → length text' ≡ length text
put-long {s = s} {text = text} {at = at} P = ap length P.is ∙ length-sets text at s

-- ---- a loop that puts f 0, f 1, .. one behind the other: i of n stand, and are at most m i bytes

pub record Lines (n : ℕ) (m : ℕ → ℕ) (f : ℕ → List ℕ) (text : List ℕ) (at : ℕ) (text' : List ℕ) (r i : ℕ) : Type 0 where
  pub high : i ≤ n
  pub put : TextPut (m i) (concat (tab i f)) text at r text'

module _ {n : ℕ} {m : ℕ → ℕ} {f : ℕ → List ℕ} {text : List ℕ} {at : ℕ} where
  pub lines_start : Lines n m f text at text at 0
  lines_start = record {
    high = omega arith;
    put = put_as (sym (fields-none f)) record { size = omega arith; end = omega arith; is = refl };
  }

  module _ {text' : List ℕ} {r i : ℕ} (L : Lines n m f text at text' r i) where
    pub lines_more : {b r' : ℕ} {text'' : List ℕ} → i < n → TextPut b (f i) text' r r' text'' → m i + b ≤ m (i + 1) → Lines n m f text at text'' r' (i + 1)
    lines_more h P e = record { high = omega arith; put = put-most e (put_as (sym (fields-more f i)) (put_then L.put P)) }

    pub lines_end : n ≤ i → TextPut (m n) (concat (tab n f)) text at r text'
    lines_end h = let q : i ≡ n = omega (arith, L.high) in subst (λ (k : ℕ). TextPut (m k) (concat (tab k f)) text at r text') q L.put

    pub lines_long : length text' ≡ length text
    lines_long = put-long L.put

    pub lines_at : r ≤ at + m i
    lines_at = omega (arith, L.put.size, L.put.end)

-- ---- bytes as they are

pub bytes-put : (s text : List ℕ) {new : List ℕ} (at : ℕ) → at + length s ≤ length text → new ≡ s
    → TextPut (length s) s text at (at + length s) (put_mid at (at + length s - at) text new)
bytes-put s text {new} at room q = record {
  size = omega arith;
  end = refl;
  is = put_mid-paste at (at + length s - at) text new s (length s) q (omega arith) refl
      ∙ ap (λ (l : List ℕ). take at text ++ l ++ drop (at + length s) text) (take_all (length s) s (omega arith))
      ∙ sym (sets-eq s text at room);
}

-- ---- the bytes of a sequence

pub each-is : (s : List ℕ) → concat (tab (length s) (λ (k : ℕ). printed_byte (get_or s k 0))) ≡ concat (map printed_byte s)
each-is s = ap concat (sym (map-tab printed_byte (length s) (λ (k : ℕ). get_or s k 0)) ∙ ap (map printed_byte) (tab-get_or s 0))

pub sequence-none : (s : List ℕ) {text text' : List ℕ} {at r : ℕ} → length s ≡ 0 → TextPut 1 (46 ∷ []) text at r text'
    → TextPut (4 * length s + 1) (printed_sequence s) text at r text'
unfolding printed_sequence ascii tab_from
sequence-none [] q P = P
sequence-none (b ∷ s) q P = absurd (omega arith)

pub sequence-some : (s : List ℕ) {text text' : List ℕ} {at r : ℕ} → (length s ≡ 0 → ⊥)
    → TextPut (4 * length s) (concat (map printed_byte s)) text at r text' → TextPut (4 * length s + 1) (printed_sequence s) text at r text'
unfolding printed_sequence
sequence-some [] o P = absurd (o refl)
sequence-some (b ∷ s) o P = put-most (omega arith) P

-- ---- digits

pub digit_low : {d : ℕ} → d < 10 → 48 + d ≡ digit d
unfolding digit
digit_low {d} h = rw (lt-ltb d 10 h)

pub digit-high : {d : ℕ} → 10 ≤ d → 87 + d ≡ digit d
unfolding digit
digit-high {d} h = rw (le-ltb d 10 h)

by_one : (f n : ℕ) → ltb n 10 ≡ true → decimal_by (suc f) n ≡ digit n ∷ []
unfolding decimal_by
by_one f n t = rw (t, decimal_by)

by-more : (f n : ℕ) → ltb n 10 ≡ false → decimal_by (suc f) n ≡ decimal_by f (n / 10) ++ (digit (n % 10) ∷ [])
unfolding decimal_by
by-more f n t = rw (t, decimal_by)

-- any fuel above the number serves
fuel-enough : (f g n : ℕ) → n < f → n < g → decimal_by f n ≡ decimal_by g n
fuel-enough zero g n p q = absurd (omega arith)
fuel-enough (suc f) zero n p q = absurd (omega arith)
fuel-enough (suc f) (suc g) n p q = by_test (ltb n 10)
    (λ t. by_one f n t ∙ sym (by_one g n t))
    (λ t.
    let h : 10 ≤ n = ltb-false n 10 t in
    by-more f n t ∙ ap (λ (l : List ℕ). l ++ (digit (n % 10) ∷ [])) (fuel-enough f g (n / 10) (omega arith) (omega arith)) ∙ sym (by-more g n t))

pub decimal-one : (n : ℕ) → n < 10 → decimal n ≡ digit n ∷ []
unfolding decimal
decimal-one n h = by_one n n (lt-ltb n 10 h)

pub decimal-more : (n : ℕ) → 10 ≤ n → decimal n ≡ decimal (n / 10) ++ (digit (n % 10) ∷ [])
unfolding decimal
decimal-more n h = by-more n n (le-ltb n 10 h) ∙ ap (λ (l : List ℕ). l ++ (digit (n % 10) ∷ []))
    (fuel-enough n (suc (n / 10)) (n / 10) (omega arith) (omega arith))

-- the number that digits spell behind a
unfoldable pub read_from : ℕ → List ℕ → ℕ
read_from a [] = a
read_from a (d ∷ ds) = read_from (10 * a + (d - 48)) ds

read-snoc : (a : ℕ) (ds : List ℕ) (d : ℕ) → read_from a (ds ++ (d ∷ [])) ≡ 10 * read_from a ds + (d - 48)
unfolding read_from
read-snoc a [] d = refl
read-snoc a (x ∷ ds) d = read-snoc (10 * a + (x - 48)) ds d

read_one : (n : ℕ) → n < 10 → read_from 0 (decimal n) ≡ n
unfolding read_from
read_one n h = ap (read_from 0) (decimal-one n h) ∙ omega (arith, digit_low h)

read_more : (n : ℕ) → 10 ≤ n → read_from 0 (decimal (n / 10)) ≡ n / 10 → read_from 0 (decimal n) ≡ n
read_more n h q =
    let low : 48 + n % 10 ≡ digit (n % 10) = digit_low (omega arith) in
    ap (read_from 0) (decimal-more n h) ∙ read-snoc 0 (decimal (n / 10)) (digit (n % 10)) ∙ omega arith

read_by : (f n : ℕ) → n < f → read_from 0 (decimal n) ≡ n
read_by zero n p = absurd (omega arith)
read_by (suc f) n p = by_test (ltb n 10)
    (λ t. read_one n (ltb-true n 10 t))
    (λ t. let h : 10 ≤ n = ltb-false n 10 t in read_more n h (read_by f (n / 10) (omega arith)))

-- what stands there in decimal is the number
pub decimal-reads : (n : ℕ) → read_from 0 (decimal n) ≡ n
decimal-reads n = read_by (suc n) n (omega arith)

abbrev tens : ℕ → ℕ
tens zero = 10
tens (suc d) = 10 * tens d

short : (d n : ℕ) → n < tens d → length (decimal n) ≤ suc d
short zero n h = omega (arith, ap length (decimal-one n h))
short (suc d) n h = by_test (ltb n 10)
    (λ t. omega (arith, ap length (decimal-one n (ltb-true n 10 t))))
    (λ t. omega (arith, ap length (decimal-more n (ltb-false n 10 t)), length-append (decimal (n / 10)) (digit (n % 10) ∷ []), short d (n / 10) (omega arith)))

-- ten digits hold a number of 32 bits
pub decimal-short : {n : ℕ} → n < 4294967296 → length (decimal n) ≤ 10
decimal-short {n} h = short 9 n (omega arith)

pub digits-one : {text : List ℕ} {at x d : ℕ} → x < 10 → d ≡ digit x → TextPut (length (decimal x)) (decimal x) text at (at + 1) (set text at d)
digits-one {text} {at} {x} h q = put-size (omega arith) (put_as (sym (decimal-one x h)) (put_one text at (at + 1) q refl))

pub digits_more : {text text' : List ℕ} {at x d r : ℕ} → 10 ≤ x → TextPut (length (decimal (x / 10))) (decimal (x / 10)) text at r text' → d
    ≡ digit (x % 10) → TextPut (length (decimal x)) (decimal x) text at (r + 1) (set text' r d)
digits_more {text' = text'} {x = x} {r = r} h P q = put-size (omega arith) (put_as (sym (decimal-more x h)) (put_then P (put_one text' r (r + 1) q refl)))

-- the call for the digits before the last: a smaller number, and room for them and the last
pub falls-to : {x t : ℕ} → x ≡ t → 10 ≤ x → x / 10 < t
falls-to q h = omega arith

pub more-long : (x : ℕ) → 10 ≤ x → length (decimal x) ≡ length (decimal (x / 10)) + 1
more-long x h = ap length (decimal-more x h) ∙ length-append (decimal (x / 10)) (digit (x % 10) ∷ [])

pub digits-behind : {x at r : ℕ} {text text' : List ℕ} → 10 ≤ x → at + length (decimal x) ≤ length text
    → TextPut (length (decimal (x / 10))) (decimal (x / 10)) text at r text' → r < length text
digits-behind {x} h room P = omega (arith, more-long x h, P.end)

-- ---- letters

pub letter-is : (b : ℕ) → is_ascii_alphabetic b ≡ is_letter b
unfolding is_letter
letter-is b = refl

module _ (b : ℕ) where
  byte-letter : is_letter b ≡ true → printed_byte b ≡ b ∷ []
  unfolding printed_byte
  byte-letter t = rw t

  byte-other : is_letter b ≡ false → printed_byte b ≡ 92 ∷ 120 ∷ digit (b / 16) ∷ digit (b % 16) ∷ []
  unfolding printed_byte ascii tab_from
  byte-other t = rw t

  pub put-letter : {text : List ℕ} {at : ℕ} {l : Bool} → l ≡ true → l ≡ is_letter b → TextPut 4 (printed_byte b) text at (at + 1) (set text at b)
  put-letter {text} {at} t q = put_as (sym (byte-letter (sym q ∙ t))) (put-most (omega arith) (put_one text at (at + 1) refl refl))

  pub put_other : {text : List ℕ} {at x y : ℕ} {l : Bool} → l ≡ false → l ≡ is_letter b → x ≡ digit (b / 16) → y ≡ digit (b % 16)
      → TextPut 4 (printed_byte b) text at (at + 4) (set (set (set (set text at 92) (at + 1) 120) (at + 2) x) (at + 3) y)
  put_other {text} {at} t q d e = put_as (sym (byte-other (sym q ∙ t)))
      (put_then (put_then (put_then (put_one text at (at + 1) refl refl) (put_one _ (at + 1) (at + 2) refl (omega arith)))
      (put_one _ (at + 2) (at + 3) d (omega arith))) (put_one _ (at + 3) (at + 4) e (omega arith)))
