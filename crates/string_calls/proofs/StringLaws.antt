-- The promise of the string calls: the answer and the output are the definition's, and as many bytes as a record may have are room enough for every
-- string. Assumes nothing.
use mathlib.Core.Path.{◌≡◌, refl, sym, ap, ◌∙◌}
use mathlib.Core.List.{List}
use Prim.Native.Nat.{ℕ, ◌≤◌}
use native.Mathlib.Omega.{arith}
use native.Mathlib.Decide.{ℕ_discrete}
use lib.ListN.{length}
use Rattle.defs.specs.Lists.{given}
use Rattle.defs.specs.Simplify.{sequence_bytes}
use Rattle.defs.specs.Paths.{is_path_of, path_bases_bytes, reference_path_bytes}
use Rattle.defs.specs.Forms.{form_of, limits}
use Rattle.defs.specs.Record.{decode}
use Rattle.defs.specs.Refusals.{sequence_only, record_refusal}
use Rattle.defs.specs.Calls.{Response, refused, number_of, reference_path_bytes_response, path_bases_bytes_response}
use Rattle.laws.proofs.ListLaws.{given-some, by_order}
use Rattle.laws.proofs.Whole.{by_option}
use Rattle.record.proofs.Accepted.{sequence-kind}
use Rattle.sound.proofs.Accepted.{accepted-early, accepted-good, accepted-limits}
use Rattle.reread.proofs.Read.{record-most}
use Rattle.defs.specs.Calls as D
use Rattle.calls.specs.Sending.{fits, Responds}
use Rattle.calls.specs.declared.Answer.{Answer}
use Rattle.calls.proofs.ResponseLaws.{fits-enough}
use Rattle.string_calls.specs.TellsBytes.{TellsBytes}
use Rattle.reading_calls.specs.Reading.{reference_response, path_response, reading_response, reading_response_to}
use Rattle.reading_calls.specs.declared.ReadingCall.{ReadingCall}
use Rattle.reading_calls.specs.declared.ReadingCall.TheVariants.{ReferencePathBytes, PathBasesBytes}
use Rattle.reading_calls.proofs.LengthLaws.{path-most, reference-most}
use Rattle.reading_calls.proofs.BytesLaws.{reference-refused, reference-none, reference-some, path-refused, path-none, path-some}
use Rattle.reading_calls.proofs.ReadingLaws.{response-above, response-within}

module _ {x : Response} where
  other : {n : ℕ} → x ≡ refused n → (n ≡ 11 → ⊥) → number_of x ≡ 11 → ⊥
  unfolding number_of
  other e o z = o (sym (ap number_of e) ∙ z)

  whole : (room : ℕ) (s : List ℕ) → x ≡ fits room s → length s ≤ room → number_of x ≡ 11 → ⊥
  unfolding number_of
  whole room s e l z = let n : ◌≡◌ {A = ℕ} 0 11 = sym (ap number_of (e ∙ fits-enough room s l)) ∙ z in omega (arith, n)

few : (bs : List ℕ) → record_refusal sequence_only bs ≡ 0 → sequence_bytes (decode bs).verts ≤ (limits (form_of bs)).bytes
few bs z = (accepted-limits sequence_only bs z (sequence-kind bs (accepted-early sequence_only bs z))).few

reference-room : (bs : List ℕ) (room : ℕ) → (limits (form_of bs)).bytes ≤ room → number_of (reference_response bs room) ≡ 11 → ⊥
reference-room bs room l = elim (ℕ_discrete (record_refusal sequence_only bs) 0) [
  | no ne ↦ other (reference-refused bs room refl ne) (λ i. omega (arith, i, record-most sequence_only bs))
  | yes z ↦ by_option (reference_path_bytes (decode bs))
      (λ e. other (reference-none bs room z e) (λ i. omega arith))
      (λ s e. whole room s (reference-some bs room z s e)
      (omega (arith, l, few bs z, reference-most (decode bs) (accepted-good sequence_only bs z).0 s e)))
]

path_room : (bs : List ℕ) (start : ℕ) (list : List ℕ) (room : ℕ) → (limits (form_of bs)).bytes ≤ room → number_of (path_response start list bs room) ≡ 11 → ⊥
path_room bs start list room l = elim (ℕ_discrete (record_refusal sequence_only bs) 0) [
  | no ne ↦ other (path-refused bs start list room refl ne) (λ i. omega (arith, i, record-most sequence_only bs))
  | yes z ↦ by_option (given (is_path_of (decode bs) start list) (path_bases_bytes (decode bs) start list))
      (λ e. other (path-none bs start list room z e) (λ i. omega arith))
      (λ s e. let y = given-some (is_path_of (decode bs) start list) (path_bases_bytes (decode bs) start list) s e in
      whole room s (path-some bs start list room z s e)
      (omega (arith, l, few bs z, ap length y.1, path-most (decode bs) (accepted-good sequence_only bs z).0 start list y.0)))
]

-- a caller above 15 is refused under 18, and for any other these are the call's responses
room-to : (call : ReadingCall) (list bs : List ℕ) (room caller : ℕ) → (number_of (reading_response call list bs room) ≡ 11 → ⊥)
    → number_of (reading_response_to call list bs room caller) ≡ 11 → ⊥
room-to call list bs room caller f i = by_order caller 15
    (λ l. f (sym (ap number_of (response-within call list bs room caller l)) ∙ i))
    (λ l. other (response-above call list bs room caller l) (λ z. omega (arith, z)) i)

-- the promise of a call, from its response and that 11 is not its number
tells-bytes : {bs : List ℕ} {x : Response} {out : List ℕ} {a : Answer} {out' : List ℕ} → Responds x out a out'
    → ((limits (form_of bs)).bytes ≤ length out → number_of x ≡ 11 → ⊥) → TellsBytes bs x out a out'
unfolding D.answer
tells-bytes S h = record { answer = λ i. record { number = S.number i; length = S.size i }; written = S.written; room = λ l i. h l (sym S.number ∙ i) }

module _ (bs list : List ℕ) (caller : ℕ) {out : List ℕ} {a : Answer} {out' : List ℕ} where
  pub reference-tells : Responds (reading_response_to ReferencePathBytes list bs (length out) caller) out a out'
      → TellsBytes bs (reference_path_bytes_response bs (length out) caller) out a out'
  unfolding reading_response_to reading_response
  reference-tells S = tells-bytes S (λ l. room-to ReferencePathBytes list bs (length out) caller (reference-room bs (length out) l))

  pub path-tells : (start : ℕ) → Responds (reading_response_to (PathBasesBytes start) list bs (length out) caller) out a out'
      → TellsBytes bs (path_bases_bytes_response bs start list (length out) caller) out a out'
  unfolding reading_response_to reading_response
  path-tells start S = tells-bytes S (λ l. room-to (PathBasesBytes start) list bs (length out) caller (path_room bs start list (length out) l))
