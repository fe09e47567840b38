-- Writing the merged sequence behind the pool, and the marks of the vertices that go. Assumes nothing.
use mathlib.Core.Path.{◌≡◌, refl, sym, ap, ◌∙◌}
use mathlib.Core.Logic.{inl}
use mathlib.Core.List.{List, ◌∷◌, ◌++◌}
use Prim.Native.Nat.{ℕ, ◌+◌, ◌*◌, ◌-◌, ◌<◌}
use native.Mathlib.Omega.{arith}
use native.Mathlib.Decide.{ℕ_discrete}
use lib.ListN.{length, get_or, set, take, drop}
use lib.Seq.{take-add, drop-drop, get_or-set_same, get_or-set_other}
use borrow.Author.Tests.{eq-eqb, ne_eqb}
use Rattle.defs.specs.Lists.{bit, elem_of}
use Rattle.store.specs.Store.{part, seq_in}
use Rattle.compact.specs.Compact.{Marked}
use Rattle.pool.specs.Pool.{Apart, Moved}
use Rattle.pool.proofs.PoolLaws.{part_same}
use Rattle.merge_suffices.specs.Merge.{MergeWritable, MergeWritten}

module _ {vs p : List ℕ} {used first bottom : ℕ} (F : MergeWritable vs p used first bottom) {a b x y : ℕ}
    (qa : a ≡ get_or vs (2 * first) 0) (qb : b ≡ get_or vs (2 * bottom) 0) (qx : x ≡ get_or vs (2 * first + 1) 0) (qy : y ≡ get_or vs (2 * bottom + 1) 0) where
  pub first-apart : Apart p used a x
  first-apart = record { to_room = omega (arith, F.room); from-room = omega (arith, F.room, F.first-before); apart = inl (omega (arith, F.first-before)) }

  module _ {p₁ : List ℕ} (M : Moved p used a x p₁) (l : length p₁ ≡ length p) where
    pub second-apart : Apart p₁ (used + x) b y
    second-apart = record {
      to_room = omega (arith, F.room);
      from-room = omega (arith, F.room, F.bottom-before);
      apart =
          inl (omega (arith, F.bottom-before));
    }

    pub written : {p₂ : List ℕ} → Moved p₁ (used + x) b y p₂ → length p₂ ≡ length p₁ → MergeWritten vs p used first bottom (used + x + y) p₂
    written {p₂} N k = record {
      end = omega arith;
      old = λ j h. N.before j (omega arith) ∙ M.before j h;
      is = ap (part p₂ used) size ∙ take-add x y (drop used p₂) ∙ (λ i. one i ++ two i);
    }
      where
        size : used + x + y - used ≡ x + y
        size = omega arith

        one : part p₂ used x ≡ seq_in vs p first
        one = part_same p p₂ a used x (omega (arith, F.room, F.first-before)) (omega (arith, F.room, l, k)) (λ i h.
            N.before (used + i) (omega arith) ∙ M.copied i h) ∙ (λ i. part p (qa i) (qx i))

        two : take y (drop x (drop used p₂)) ≡ seq_in vs p bottom
        two = ap (take y) (drop-drop x used p₂) ∙ part_same p p₂ b (used + x) y (omega (arith, F.room, F.bottom-before))
            (omega (arith, F.room, l, k)) (λ i h. N.copied i h ∙ M.before (b + i) (omega (arith, F.bottom-before)))
            ∙ (λ i. part p (qb i) (qy i))

-- one vertex more goes
pub marked_more : {gone : List ℕ} {n : ℕ} {mp : List ℕ} (v : ℕ) → v < length mp → Marked gone n mp → Marked (v ∷ gone) n (set mp v 1)
unfolding elem_of bit
marked_more {gone} {n} {mp} v h M = record {
  at = λ u b. elim (ℕ_discrete u v) [
    | yes q ↦ rw (q, get_or-set_same mp v 1 0 h, eq-eqb v v refl, elem_of)
    | no ne ↦ get_or-set_other mp v u 1 0 ne ∙ M.at u b ∙ sym (rw (ne_eqb u v ne, elem_of))
  ];
}
