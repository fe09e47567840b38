-- The loop that adds up the lengths before a vertex.
-- Assumes nothing.
use Prim.Native.Nat.{ℕ, ◌+◌, ◌-◌, ◌≤◌, ◌<◌}
use mathlib.Core.Path.{◌≡◌, ap, sym, ◌∙◌}
use mathlib.Core.List.{List}
use native.Mathlib.Omega.{arith}
use lib.ListN.{take, drop}
use Rattle.defs.specs.Lists.{tab_from, sum}
use Rattle.defs.specs.Forms.{form_of}
use Rattle.defs.specs.Record.{vertices_of, edges_of, bytes_at, length_at, sequence_start, sequence_at}
use Rattle.record.proofs.Fields.{sequence_start-is, sequence_at-is}
use Rattle.record.proofs.Sequences.{vertex-is}
use Rattle.record.proofs.TurnLaws.{sum-start, sum-turn, sum-spent}
use Rattle.sequence.specs.Part.{Part}

-- what is added so far, and what is still to be added, up to vertex v
pub record AddingLengths (bs : List ℕ) (v i at : ℕ) : Type 0 where
  pub most : i ≤ v
  pub adds : at + sum (tab_from i (v - i) (length_at bs)) ≡ sequence_start bs v

module _ (bs : List ℕ) (v : ℕ) where
  pub adding-start : {at : ℕ} → at ≡ bytes_at (form_of bs) (vertices_of bs) (edges_of bs) → AddingLengths bs v 0 at
  adding-start e = record { most = omega arith; adds = omega (arith, e, sum-start (length_at bs) v, sequence_start-is bs v) }

  pub adding-more : (i at l : ℕ) → i < v → l ≡ length_at bs i → AddingLengths bs v i at → AddingLengths bs v (i + 1) (at + l)
  adding-more i at l h e k = record { most = omega arith; adds = omega (arith, sum-turn (length_at bs) i v h, k.adds) }

  -- no sum on the way passes the last
  pub adding-fits : (i at l : ℕ) → i < v → l ≡ length_at bs i → AddingLengths bs v i at → at + l ≤ sequence_start bs v
  adding-fits i at l h e k = omega (arith, sum-turn (length_at bs) i v h, k.adds)

  pub adding-end : (i at : ℕ) → v ≤ i → AddingLengths bs v i at → at ≡ sequence_start bs v
  adding-end i at h k = omega (arith, sum-spent (length_at bs) i v h, k.adds)

-- the part that is cut out
pub part-is : (bs : List ℕ) (v s e : ℕ) → s ≡ sequence_start bs v → e ≡ s + length_at bs v → v < vertices_of bs → Part bs v (take (e - s) (drop s bs))
part-is bs v s e hs he below =
    let n : e - s ≡ length_at bs v = omega arith in
    let b : take (e - s) (drop s bs) ≡ sequence_at bs v =
    ap (λ (k : ℕ). take k (drop s bs)) n ∙ ap (λ (k : ℕ). take (length_at bs v) (drop k bs)) hs ∙ sym (sequence_at-is bs v) in
    record { bytes = b; vertex = b ∙ sym (vertex-is bs v below) }
