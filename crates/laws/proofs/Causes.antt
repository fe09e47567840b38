-- The number that a list of causes gives: that of the first one present, both ways; of two lists, one behind the other. Assumes nothing.
use mathlib.Core.Path.{◌≡◌, refl, sym, ap, ◌∙◌}
use mathlib.Core.Logic.{⊎_elim}
use mathlib.Core.Bool.{true, false, not}
use mathlib.Core.List.Memᴰ
use mathlib.Core.List.{List, [], ◌∷◌, ◌++◌, Memᴰ}
use Prim.Native.Nat.{ℕ, zero, suc, ◌≤◌, ◌<◌}
use native.Mathlib.Omega.{arith}
use native.Mathlib.Decide.{ℕ_discrete}
use lib.Dec.{eqb, ltb, leb}
use borrow.Author.Tests.{eqb-false, ltb-true, leb-true}
use Rattle.defs.specs.Lists.{all_of}
use Rattle.defs.specs.Refusals.{Cause, refusal_of, NonePresent, FirstPresent, IsNumberOf}
use Rattle.defs.specs.Calls.{number_of, respond_to, respond}
use Rattle.laws.proofs.Walks.{by_test}
use Rattle.laws.proofs.ListLaws.{clash}
use Rattle.laws.proofs.Edges.{all_of-mem}

-- a cause's number is not 0, which means accepted
pub record CausesNumbered (cs : List Cause) : Type 0 where
  pub at : (c : Cause) → Memᴰ c cs → 0 < c.number

-- of a list that is written out this is computed
pub numbers-above : (cs : List Cause) → all_of (λ (c : Cause). ltb 0 c.number) cs ≡ true → CausesNumbered cs
numbers-above cs t = record { at = λ c m. ltb-true 0 c.number (all_of-mem (λ (c : Cause). ltb 0 c.number) cs t m) }

module _ {c : Cause} {cs : List Cause} (N : CausesNumbered (c ∷ cs)) where
  numbered-first : 0 < c.number
  numbered-first = N.at c (Memᴰ.head refl)

  numbered-rest : CausesNumbered cs
  numbered-rest = record { at = λ d m. N.at d (Memᴰ.tail m) }

pub refusal-nil : refusal_of [] ≡ 0
unfolding refusal_of
refusal-nil = refl

module _ (c : Cause) (cs : List Cause) where
  pub refusal-there : c.present ≡ true → refusal_of (c ∷ cs) ≡ c.number
  unfolding refusal_of
  refusal-there t = rw t

  pub refusal-absent : c.present ≡ false → refusal_of (c ∷ cs) ≡ refusal_of cs
  unfolding refusal_of
  refusal-absent t = rw (t, refusal_of)

-- ---- two lists, one behind the other

-- the later causes count where the earlier ones are absent
pub refusal-later : (cs ds : List Cause) → CausesNumbered cs → refusal_of cs ≡ 0 → refusal_of (cs ++ ds) ≡ refusal_of ds
refusal-later [] ds n z = refl
refusal-later (c ∷ cs) ds n z = by_test c.present
    (λ t. absurd (omega (arith, refusal-there c cs t, numbered-first n)))
    (λ t. refusal-absent c (cs ++ ds) t ∙ refusal-later cs ds (numbered-rest n) (sym (refusal-absent c cs t) ∙ z))

-- an earlier cause gives its number
pub refusal-earlier : (cs ds : List Cause) {i : ℕ} → refusal_of cs ≡ i → (i ≡ 0 → ⊥) → refusal_of (cs ++ ds) ≡ i
unfolding refusal_of
refusal-earlier [] ds e o = absurd (o (sym e))
refusal-earlier (c ∷ cs) ds e o = by_test c.present
    (λ t. refusal-there c (cs ++ ds) t ∙ sym (refusal-there c cs t) ∙ e)
    (λ t. refusal-absent c (cs ++ ds) t ∙ refusal-earlier cs ds (sym (refusal-absent c cs t) ∙ e) o)

-- where no cause gives a number, no earlier one does
pub refusal-front : (cs ds : List Cause) → refusal_of (cs ++ ds) ≡ 0 → refusal_of cs ≡ 0
refusal-front cs ds z = elim (ℕ_discrete (refusal_of cs) 0) [ yes q ↦ q | no ne ↦ absurd (ne (sym (refusal-earlier cs ds refl ne) ∙ z)) ]

-- a last cause that is absent changes nothing
pub refusal-without : (cs : List Cause) (d : Cause) → d.present ≡ false → refusal_of (cs ++ (d ∷ [])) ≡ refusal_of cs
refusal-without [] d f = refusal-absent d [] f
refusal-without (c ∷ cs) d f = by_test c.present
    (λ t. refusal-there c (cs ++ (d ∷ [])) t ∙ sym (refusal-there c cs t))
    (λ t. refusal-absent c (cs ++ (d ∷ [])) t ∙ refusal-without cs d f ∙ sym (refusal-absent c cs t))

-- the numbers bound the refusal
refusal-most : (b : ℕ) (cs : List Cause) → ((c : Cause) → Memᴰ c cs → c.number ≤ b) → refusal_of cs ≤ b
unfolding refusal_of
refusal-most b [] h = omega arith
refusal-most b (c ∷ cs) h = by_test c.present
    (λ t. rw (refusal-there c cs t) (h c (Memᴰ.head refl)))
    (λ t. rw (refusal-absent c cs t) (refusal-most b cs (λ d m. h d (Memᴰ.tail m))))

-- a number that no cause has is not given
pub numbers-other : (n : ℕ) (cs : List Cause) → 0 < n → all_of (λ (c : Cause). not (eqb c.number n)) cs ≡ true → refusal_of cs ≡ n → ⊥
unfolding refusal_of all_of
numbers-other n [] l t e = omega (arith, e)
numbers-other n (c ∷ cs) l t e = by_test (eqb c.number n)
    (λ q. clash (rw (q, all_of) at t) refl)
    (λ q. by_test c.present
    (λ p. eqb-false c.number n q (sym (refusal-there c cs p) ∙ e))
    (λ p. numbers-other n cs l (rw (q, all_of) at t) (sym (refusal-absent c cs p) ∙ e)))

pub numbers-within : (b : ℕ) (cs : List Cause) → all_of (λ (c : Cause). leb c.number b) cs ≡ true → refusal_of cs ≤ b
numbers-within b cs t = refusal-most b cs (λ c m. leb-true c.number b (all_of-mem (λ (c : Cause). leb c.number b) cs t m))

-- ---- none present, or the first one that is

none_first : {c : Cause} {cs : List Cause} → NonePresent (c ∷ cs) → c.present ≡ false
none_first {c} A = A.absent c (Memᴰ.head refl)

none_rest : {c : Cause} {cs : List Cause} → NonePresent (c ∷ cs) → NonePresent cs
none_rest A = record { absent = λ d m. A.absent d (Memᴰ.tail m) }

none_more : {c : Cause} {cs : List Cause} → c.present ≡ false → NonePresent cs → NonePresent (c ∷ cs)
none_more {c} f A = record {
  absent = λ d m. ⊎_elim (λ (e : d ≡ c). ap (λ (x : Cause). x.present) e ∙ f) (A.absent d) (Memᴰ.cases_cons m);
}

-- of two lists, one behind the other
module _ (cs ds : List Cause) where
  pub none_left : NonePresent (cs ++ ds) → NonePresent cs
  none_left A = record { absent = λ c m. A.absent c (Memᴰ.append_left ds m) }

  pub none_right : NonePresent (cs ++ ds) → NonePresent ds
  none_right A = record { absent = λ c m. A.absent c (Memᴰ.append_right cs m) }

  pub none_both : NonePresent cs → NonePresent ds → NonePresent (cs ++ ds)
  none_both A B = record { absent = λ c m. ⊎_elim (A.absent c) (B.absent c) (Memᴰ.append_cases cs m) }

pub none-refuses : (cs : List Cause) → NonePresent cs → refusal_of cs ≡ 0
unfolding refusal_of
none-refuses [] A = refl
none-refuses (c ∷ cs) A = refusal-absent c cs (none_first A) ∙ none-refuses cs (none_rest A)

pub refusal-none : (cs : List Cause) → CausesNumbered cs → refusal_of cs ≡ 0 → NonePresent cs
refusal-none [] N z = record { absent = λ c m. absurd (Memᴰ.not-nil m) }
refusal-none (c ∷ cs) N z = by_test c.present
    (λ t. absurd (omega (arith, refusal-there c cs t, numbered-first N)))
    (λ t. none_more t (refusal-none cs (numbered-rest N) (sym (refusal-absent c cs t) ∙ z)))

first-refuses : (cs : List Cause) (d : Cause) (ds : List Cause) → NonePresent cs → d.present ≡ true → refusal_of (cs ++ (d ∷ ds)) ≡ d.number
first-refuses [] d ds A t = refusal-there d ds t
first-refuses (c ∷ cs) d ds A t = refusal-absent c (cs ++ (d ∷ ds)) (none_first A) ∙ first-refuses cs d ds (none_rest A) t

refusal-first : (cs : List Cause) {n : ℕ} → refusal_of cs ≡ n → (n ≡ 0 → ⊥) → FirstPresent cs n
unfolding refusal_of
refusal-first [] e o = absurd (o (sym e))
refusal-first (c ∷ cs) e o = by_test c.present
    (λ t. record {
      before = [];
      cause = c;
      behind = cs;
      place = refl;
      none_before = record { absent = λ d m. absurd (Memᴰ.not-nil m) };
      present = t;
      number = sym (refusal-there c cs t) ∙ e;
    })
    (λ t. let F = refusal-first cs (sym (refusal-absent c cs t) ∙ e) o in record {
      before = c ∷ F.before;
      cause = F.cause;
      behind = F.behind;
      place = ap (λ (l : List Cause). c ∷ l) F.place;
      none_before = none_more t F.none_before;
      present = F.present;
      number = F.number;
    })

-- THE NUMBER OF A CALL IS THAT OF THE FIRST OF ITS CAUSES THAT IS PRESENT, BOTH WAYS
pub refusal-number : (cs : List Cause) → CausesNumbered cs → IsNumberOf cs (refusal_of cs)
refusal-number cs N = record {
  none = refusal-none cs N;
  of_none = none-refuses cs;
  first = refusal-first cs refl;
  of-first = λ m F. ap refusal_of F.place ∙ first-refuses F.before F.cause F.behind F.none_before F.present ∙ F.number;
}

pub number-responded : (n : ℕ) (result : List ℕ) → number_of (respond_to n result) ≡ n
unfolding number_of respond_to
number-responded zero result = refl
number-responded (suc n) result = refl

pub respond-number : (cs : List Cause) (result : List ℕ) → number_of (respond cs result) ≡ refusal_of cs
unfolding respond
respond-number cs result = number-responded (refusal_of cs) result
