-- Writing over, and the signature. Assumes nothing.
use mathlib.Core.Path.{◌≡◌, refl, sym, ap, ◌∙◌, subst}
use mathlib.Core.Bool.{Bool, true, false, ◌&&◌}
use mathlib.Core.List.{List, [], ◌∷◌, ◌++◌}
use Prim.Native.Nat.{ℕ, zero, suc, ◌+◌, ◌*◌, ◌-◌, ◌≤◌, ◌<◌}
use native.Mathlib.Nat.{add-zero, zero-add}
use native.Mathlib.Numerals.{add-one}
use native.Mathlib.Omega.{arith}
use native.Mathlib.Decide.{ℕ_discrete}
use lib.ListN.{length, get_or, set, take, drop, length-append, get_or-append}
use lib.Seq.{get_or-set_same, get_or-set_other, ext_get_or, take-suc, get_or-append-add, length-take-le, take_all}
use lib.Dec.{eqb, ltb}
use borrow.Author.Tests.{lt-ltb, eq-eqb, eqb-true}
use Rattle.defs.specs.Lists.{bit, same_list, sum, tab, concat}
use Rattle.defs.specs.SeqGraph.{node_count}
use Rattle.laws.proofs.Walks.{by_test}
use Rattle.laws.proofs.ListLaws.{clash, by_order, and_split, same_list-eq, same_list-refl}
use Rattle.tabs.proofs.Tabs.{length-tab, get_or-tab}
use Rattle.tabs.proofs.SumTabs.{sum_below, map-tab, fields-none, fields-more, fields-length}
use Rattle.defs.specs.Record.{flag_is_ref}
use Rattle.store.specs.Store.{part, nums_in, edge_in, seq_in}
use Rattle.store.proofs.VertexLaws.{part-long}
use Rattle.memory.specs.Memory.{graph_of}
use Rattle.memory.specs.declared.Held.{Held}
use Rattle.signature.specs.Signature.{same_at, same_from, stored_vertex, stored_edge, stored_vertices, stored_edges, stored_signature, WrittenOver, Writable}
use Rattle.signature.specs.Signature.{SignatureWritable, Signature}
use Rattle.signature.specs.declared.Signed.{Signed}

-- ---- one after another

pub same-append : (l : List ℕ) (old at : ℕ) (xs ys : List ℕ) → same_from l old at (xs ++ ys) ≡ same_from l old at xs && same_from l old (at + length xs) ys
same-append l old at [] ys = ap (λ (x : ℕ). same_from l old x ys) (sym (add-zero at))
same-append l old at (x ∷ xs) ys = ap (λ (b : Bool). same_at l old at x && b) (same-append l old (suc at) xs ys
    ∙ ap (λ (z : ℕ). same_from l old (suc at) xs && same_from l old z ys) place) ∙ and_assoc (same_at l old at x) _ _
  where
    place : suc at + length xs ≡ at + suc (length xs)
    place = omega arith

    and_assoc : (a b c : Bool) → a && (b && c) ≡ (a && b) && c
    and_assoc true b c = refl
    and_assoc false b c = refl

-- what stands behind is compared with what was there
same_kept : (l l' : List ℕ) (old at : ℕ) (xs : List ℕ) → ((k : ℕ) → at ≤ k → get_or l' k 0 ≡ get_or l k 0) → same_from l' old at xs ≡ same_from l old at xs
same_kept l l' old at [] h = refl
same_kept l l' old at (x ∷ xs) h = λ i. (ltb at old && eqb (h at (omega arith) i) x) && same_kept l l' old (suc at) xs (λ k b. h k (omega arith)) i

and-more : (a b c d : Bool) → d ≡ (a && b) && c → d ≡ a && (b && c)
and-more true b c d e = e
and-more false b c d e = e

and-all : (b : Bool) → b ≡ b && true
and-all true = refl
and-all false = refl

pub over_none : (l : List ℕ) (old : ℕ) (s : Signed) → WrittenOver l old s [] s l
over_none l old s = record { at = omega arith; same = and-all s.same; is = λ i h. absurd (omega arith); before = λ k h. refl; behind = λ k h. refl }

pub over-then : {l l₁ l₂ : List ℕ} {old : ℕ} {s r₁ r₂ : Signed} {xs ys : List ℕ} → WrittenOver l old s xs r₁ l₁ → WrittenOver l₁ old r₁ ys r₂ l₂
    → WrittenOver l old s (xs ++ ys) r₂ l₂
over-then {l} {l₁} {l₂} {old} {s} {r₁} {r₂} {xs} {ys} A B = record {
  at = omega (arith, A.at, B.at, length-append xs ys);
  same = and-more s.same (same_from l old s.at xs) (same_from l old (s.at + length xs) ys) r₂.same
      (B.same ∙ (λ i. A.same i && same_from l₁ old (A.at i) ys)
      ∙ ap (λ (b : Bool). (s.same && same_from l old s.at xs)
      && b) (same_kept l l₁ old (s.at + length xs) ys (λ k h. A.behind k h)))
      ∙ ap (λ (b : Bool). s.same && b) (sym (same-append l old s.at xs ys));
  is = λ i h. by_order (length xs) i
      (λ b. let q : s.at + i ≡ r₁.at + (i - length xs) = omega (arith, A.at) in
      ap (λ (x : ℕ). get_or l₂ x 0) q ∙ B.is (i - length xs) (omega (arith, h, length-append xs ys))
      ∙ sym (get_or-append-add xs ys (i - length xs) 0) ∙ ap (get_d_at (xs ++ ys)) (omega arith))
      (λ b. B.before (s.at + i) (omega (arith, A.at)) ∙ A.is i b ∙ sym (get_or-append xs ys 0 i b));
  before = λ k h. B.before k (omega (arith, A.at)) ∙ A.before k h;
  behind = λ k h. B.behind k (omega (arith, A.at, h, length-append xs ys)) ∙ A.behind k (omega (arith, h, length-append xs ys));
}
  where
    get_d_at : List ℕ → ℕ → ℕ
    get_d_at l i = get_or l i 0

-- ---- one number

pub put-over : {l : List ℕ} {old : ℕ} {s : Signed} {x : ℕ} {here : Bool} → Writable l old s 1 → here ≡ same_at l old s.at x → (r : Signed)
    → r.at ≡ s.at + 1 → r.same ≡ s.same && here → WrittenOver l old s (x ∷ []) r (set l s.at x)
put-over {l} {old} {s} {x} {here} W e r a b = record {
  at = a;
  same = b ∙ ap (λ (c : Bool). s.same && c) (e ∙ and-all _);
  is = λ i c. let q : s.at + i ≡ s.at = omega arith in ap (λ (k : ℕ). get_or (set l s.at x) k 0) q ∙ get_or-set_same l s.at x 0 inside ∙ first i c;
  before = λ k c. get_or-set_other l s.at k x 0 (λ z. omega arith);
  behind = λ k c. get_or-set_other l s.at k x 0 (λ z. omega arith);
}
  where
    inside : s.at < length l
    inside = omega (arith, W.room)

    first : (i : ℕ) → i < length (x ∷ []) → x ≡ get_or (x ∷ []) i 0
    first zero c = refl
    first (suc i) c = absurd (omega arith)

-- ---- room

-- behind xs there is room for what is left
pub room-behind : {l l' : List ℕ} {old a b : ℕ} {s r : Signed} {xs : List ℕ} → Writable l old s a → WrittenOver l old s xs r l' → length l' ≡ length l
    → length xs + b ≤ a → Writable l' old r b
room-behind W O q h = record { old-room = omega (arith, W.old-room, q); room = omega (arith, W.room, O.at, q, h) }

pub room-less : {l : List ℕ} {old a b : ℕ} {s : Signed} → Writable l old s a → b ≤ a → Writable l old s b
room-less W h = record { old-room = W.old-room; room = omega (arith, W.room, h) }

-- ---- bytes

pub record SequenceBytes (l₀ : List ℕ) (old : ℕ) (s : Signed) (seq l : List ℕ) (t : Signed) (i : ℕ) : Type 0 where
  pub high : i ≤ length seq
  pub len : length l ≡ length l₀
  pub over : WrittenOver l₀ old s (take i seq) t l

module _ {l₀ : List ℕ} {old : ℕ} {s : Signed} {seq : List ℕ} where
  pub bytes-start : SequenceBytes l₀ old s seq l₀ s 0
  bytes-start = record { high = omega arith; len = refl; over = over_none l₀ old s }

  pub bytes-more : {l l' : List ℕ} {t r : Signed} {i : ℕ} → SequenceBytes l₀ old s seq l t i → i < length seq → WrittenOver l old t (get_or seq i 0 ∷ []) r l'
      → length l' ≡ length l → SequenceBytes l₀ old s seq l' r (i + 1)
  bytes-more {l} {l'} {t} {r} {i} B h P q = record {
    high = omega arith;
    len = q ∙ B.len;
    over = subst (λ (x : List ℕ). WrittenOver l₀ old s x r l') (sym (ap (λ (k : ℕ). take k seq) (add-one i) ∙ take-suc seq i 0 h)) (over-then B.over P);
  }

  -- there is room for the next byte
  pub bytes-room : {l : List ℕ} {t : Signed} {i : ℕ} → SequenceBytes l₀ old s seq l t i → i < length seq → Writable l₀ old s (length seq)
      → Writable l old t 1
  bytes-room {l} {t} {i} B h W = room-behind W B.over B.len (omega (arith, length-take-le i seq B.high))

  pub bytes-end : {l : List ℕ} {t : Signed} {i : ℕ} → SequenceBytes l₀ old s seq l t i → length seq ≤ i → WrittenOver l₀ old s seq t l
  bytes-end {l} {t} {i} B h = subst (λ (x : List ℕ). WrittenOver l₀ old s x t l) (take_all i seq h) B.over

-- ---- vertices, edges: items by number

pub record Items (n : ℕ) (item : ℕ → List ℕ) (l₀ : List ℕ) (old : ℕ) (s₀ : Signed) (l : List ℕ) (s : Signed) (i : ℕ) : Type 0 where
  pub high : i ≤ n
  pub len : length l ≡ length l₀
  pub over : WrittenOver l₀ old s₀ (concat (tab i item)) s l

module _ {n : ℕ} {item : ℕ → List ℕ} {l₀ : List ℕ} {old : ℕ} {s₀ : Signed} where
  pub items-start : Items n item l₀ old s₀ l₀ s₀ 0
  items-start = record { high = omega arith; len = refl; over = subst (λ (x : List ℕ). WrittenOver l₀ old s₀ x s₀ l₀) (sym (fields-none item)) (over_none l₀ old s₀) }

  pub items-step : {l l' : List ℕ} {s r : Signed} {i : ℕ} → Items n item l₀ old s₀ l s i → i < n → WrittenOver l old s (item i) r l'
      → length l' ≡ length l → Items n item l₀ old s₀ l' r (i + 1)
  items-step {l} {l'} {s} {r} {i} E b D q = record {
    high = omega arith;
    len = q ∙ E.len;
    over = subst (λ (x : List ℕ). WrittenOver l₀ old s₀ x r l') (sym (fields-more item i)) (over-then E.over D);
  }

  -- there is room for the next item
  pub items-room : {l : List ℕ} {s : Signed} {i : ℕ} → Items n item l₀ old s₀ l s i → i < n → Writable l₀ old s₀ (length (concat (tab n item)))
      → Writable l old s (length (item i))
  items-room {l} {s} {i} E b W = room-behind W E.over E.len
      (omega (arith, long i, long n, sum_below n i (λ (j : ℕ). length (item j)) b))
    where
      long : (j : ℕ) → length (concat (tab j item)) ≡ sum (tab j (λ (k : ℕ). length (item k)))
      long j = fields-length item (λ (k : ℕ). length (item k)) j (λ k h. refl)

  pub items-end : {l : List ℕ} {s : Signed} {i : ℕ} → Items n item l₀ old s₀ l s i → n ≤ i → WrittenOver l₀ old s₀ (concat (tab n item)) s l
  items-end {l} {s} {i} E h = subst (λ (x : ℕ). WrittenOver l₀ old s₀ (concat (tab x item)) s l) all E.over
    where
      all : i ≡ n
      all = omega (arith, E.high)

-- one vertex: its length, and behind it its bytes
module _ (vs p : List ℕ) (v : ℕ) {l l₁ : List ℕ} {old : ℕ} {s t : Signed} {start len : ℕ} (qs : start ≡ get_or vs (2 * v) 0) (ql : len ≡ get_or vs (2 * v + 1) 0)
    (P : WrittenOver l old s (len ∷ []) t l₁) where
  bytes-are : take (start + len - start) (drop start p) ≡ seq_in vs p v
  bytes-are = (λ i. take (size i) (drop start p)) ∙ (λ i. part p (qs i) (ql i))
    where
      size : start + len - start ≡ len
      size = omega arith

  pub vertex-room : Writable l old s (length (stored_vertex (seq_in vs p v))) → length l₁ ≡ length l
      → Writable l₁ old t (length (take (start + len - start) (drop start p)))
  vertex-room W q = room-behind W P q (omega (arith, ap length bytes-are))

  pub vertex-over : {r : Signed} {l₂ : List ℕ} → get_or vs (2 * v) 0 + get_or vs (2 * v + 1) 0 ≤ length p
      → WrittenOver l₁ old t (take (start + len - start) (drop start p)) r l₂ → WrittenOver l old s (stored_vertex (seq_in vs p v)) r l₂
  vertex-over {r} {l₂} h S = subst (λ (x : List ℕ). WrittenOver l old s x r l₂) (λ i. long i ∷ bytes-are i) (over-then P S)
    where
      long : len ≡ length (seq_in vs p v)
      long = ql ∙ sym (part-long p (get_or vs (2 * v) 0) (get_or vs (2 * v + 1) 0) h)

-- one edge
pub edge-over : (es : List ℕ) (i : ℕ) {l l₁ l₂ l₃ : List ℕ} {old : ℕ} {s t u r : Signed} {a b c : ℕ} → a ≡ get_or es (4 * i) 0
    → b ≡ 2 * get_or es (4 * i + 1) 0 + bit (flag_is_ref (get_or es (4 * i + 3) 0)) → c ≡ get_or es (4 * i + 2) 0
    → WrittenOver l old s (a ∷ []) t l₁ → WrittenOver l₁ old t (b ∷ []) u l₂ → WrittenOver l₂ old u (c ∷ []) r l₃
    → WrittenOver l old s (stored_edge (edge_in es i)) r l₃
edge-over es i {l} {l₁} {l₂} {l₃} {old} {s} {t} {u} {r} qa qb qc A B C =
    subst (λ (x : List ℕ). WrittenOver l old s x r l₃) (λ j. qa j ∷ qb j ∷ qc j ∷ []) (over-then (over-then A B) C)

-- ---- the whole

from-true : (l : List ℕ) (old at : ℕ) (xs : List ℕ) → same_from l old at xs ≡ true → (i : ℕ) → i < length xs → get_or l (at + i) 0 ≡ get_or xs i 0
from-true l old at [] e i h = absurd (omega arith)
from-true l old at (x ∷ xs) e zero h = ap (λ (k : ℕ). get_or l k 0) (add-zero at)
    ∙ eqb-true _ x (and_split (ltb at old) _ (and_split (same_at l old at x) _ e).0).1
from-true l old at (x ∷ xs) e (suc i) h = ap (λ (k : ℕ). get_or l k 0) place
    ∙ from-true l old (suc at) xs (and_split (same_at l old at x) _ e).1 i (omega arith)
  where
    place : at + suc i ≡ suc at + i
    place = omega arith

from-of : (l : List ℕ) (old at : ℕ) (xs : List ℕ) → at + length xs ≤ old → ((i : ℕ) → i < length xs → get_or l (at + i) 0 ≡ get_or xs i 0)
    → same_from l old at xs ≡ true
from-of l old at [] b h = refl
from-of l old at (x ∷ xs) b h = rw (lt-ltb at old (omega arith), eq-eqb (get_or l at 0) x (ap (λ (k : ℕ). get_or l k 0) (sym (add-zero at)) ∙ h 0 (omega arith)))
    (from-of l old (suc at) xs (omega arith) (λ i c. ap (λ (k : ℕ). get_or l k 0) (place i) ∙ h (suc i) (omega arith)))
  where
    place : (i : ℕ) → suc at + i ≡ at + suc i
    place i = omega arith

nums-is : (l xs : List ℕ) (n : ℕ) → n ≡ length xs → ((i : ℕ) → i < length xs → get_or l (0 + i) 0 ≡ get_or xs i 0) → nums_in n l ≡ xs
nums-is l xs n q h = ext_get_or 0 _ _ (length-tab n (λ (i : ℕ). get_or l i 0) ∙ q)
    (λ i b. let c : i < n = omega (arith, b, length-tab n (λ (i : ℕ). get_or l i 0)) in get_or-tab n (λ (i : ℕ). get_or l i 0) i 0 c
    ∙ ap (λ (k : ℕ). get_or l k 0) (sym (zero-add i)) ∙ h i (omega arith))

-- the two are the same where each number is and there are as many
same_whole : (l : List ℕ) (old : ℕ) (xs : List ℕ) → length xs ≡ old → same_from l old 0 xs ≡ same_list (nums_in old l) xs
same_whole l old xs q = by_test (same_from l old 0 xs)
    (λ t. t ∙ sym (ap (λ (x : List ℕ). same_list x xs) (nums-is l xs old (sym q) (from-true l old 0 xs t)) ∙ same_list-refl xs))
    (λ t. t ∙ sym (by_test (same_list (nums_in old l) xs)
    (λ s. clash (from-of l old 0 xs (omega arith) (λ i b. ap (λ (k : ℕ). get_or l k 0) (zero-add i)
    ∙ sym (get_or-tab old (λ (k : ℕ). get_or l k 0) i 0 (omega arith)) ∙ ap (λ (x : List ℕ). get_or x i 0) (same_list-eq (nums_in old l) xs s)))
    t)
    (λ s. s)))

other_length : (l : List ℕ) (old : ℕ) (xs : List ℕ) → (length xs ≡ old → ⊥) → false ≡ same_list (nums_in old l) xs
other_length l old xs o = sym (by_test (same_list (nums_in old l) xs)
    (λ s. absurd (o (sym (ap length (same_list-eq (nums_in old l) xs s)) ∙ length-tab old (λ (k : ℕ). get_or l k 0))))
    (λ s. s))

-- the counts, the vertices and the edges of the held graph
stored_is : (h : Held) (es vs p : List ℕ) → ((h.n ∷ []) ++ (h.m ∷ []) ++ stored_vertices h.n vs p) ++ stored_edges h.m es
    ≡ stored_signature (graph_of h es vs p)
unfolding node_count
stored_is h es vs p = λ i. sym (length-tab h.n (seq_in vs p)) i ∷ sym (length-tab h.m (edge_in es)) i
    ∷ (concat (sym (map-tab stored_vertex h.n (seq_in vs p)) i) ++ concat (sym (map-tab stored_edge h.m (edge_in es)) i))

module _ {sig : List ℕ} {old : ℕ} {h : Held} {es vs p : List ℕ} {r₁ r₂ : Signed} {l₁ l₂ : List ℕ} (F : SignatureWritable sig old h es vs p)
    (A : WrittenOver sig old record { at = 0; same = true } (h.n ∷ []) r₁ l₁) (B : WrittenOver l₁ old r₁ (h.m ∷ []) r₂ l₂) where
  abbrev stored : List ℕ
  stored = stored_signature (graph_of h es vs p)

  parts-long : length stored ≡ 2 + length (stored_vertices h.n vs p) + length (stored_edges h.m es)
  parts-long =
      omega (arith, ap length (stored_is h es vs p), length-append (h.n ∷ h.m ∷ stored_vertices h.n vs p) (stored_edges h.m es))

  pub vertices-room : length l₂ ≡ length sig → Writable l₂ old r₂ (length (stored_vertices h.n vs p))
  vertices-room q = room-behind F.room (over-then A B) q (omega (arith, parts-long))

  module _ {r₃ : Signed} {l₃ : List ℕ} (C : WrittenOver l₂ old r₂ (stored_vertices h.n vs p) r₃ l₃) where
    pub edges_room : length l₃ ≡ length sig → Writable l₃ old r₃ (length (stored_edges h.m es))
    edges_room q = room-behind F.room (over-then (over-then A B) C) q (omega (arith, parts-long))

    module _ {r₄ : Signed} {l₄ : List ℕ} (D : WrittenOver l₃ old r₃ (stored_edges h.m es) r₄ l₄) where
      all : WrittenOver sig old record { at = 0; same = true } stored r₄ l₄
      all = subst (λ (x : List ℕ). WrittenOver sig old record { at = 0; same = true } x r₄ l₄) (stored_is h es vs p) (over-then (over-then (over-then A B) C) D)

      long : r₄.at ≡ length stored
      long = all.at ∙ zero-add (length stored)

      fits : r₄.at ≤ length sig
      fits = omega (arith, long, F.room.room)

      nums : nums_in r₄.at l₄ ≡ stored
      nums = nums-is l₄ stored r₄.at long (λ i b. all.is i b)

      pub signed : {b : Bool} → (r₄.at ≡ old → b ≡ r₄.same) → ((r₄.at ≡ old → ⊥) → b ≡ false) → Signature sig old h es vs p record { at = r₄.at; same = b } l₄
      signed whole other = record {
        room = fits;
        is = nums;
        same = elim (ℕ_discrete r₄.at old) [
          | yes q ↦ whole q ∙ all.same ∙ same_whole sig old stored (sym long ∙ q)
          | no o ↦ other o ∙ other_length sig old stored (λ z. o (long ∙ z))
        ];
      }
