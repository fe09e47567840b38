-- The promise of a call that rewrites. Assumes nothing.
use Rattle.std.specs.Prelude.{◌≡◌, List, ◌∷◌, ℕ, length}
use Rattle.defs.specs.Forms.{Form, form_of}
use Rattle.defs.specs.Record.{sequence_graph, encode, decode}
use Rattle.defs.specs.Refusals.{Cause, sequence_only, record_causes, record_refusal}
use Rattle.defs.specs.Calls.{Response, caller_cause, respond}
use Rattle.memory.specs.Memory.{graph_of}
use Rattle.memory.specs.declared.Held.{Held}
use Rattle.choice.specs.Choice.{Cleanable}
use Rattle.rewriting.specs.Rewriting.{Result, result_of}
use Rattle.rewriting.specs.declared.RewritingCall.{RewritingCall}
use Rattle.calls.specs.Sending.{with_output, RoomFits, Responds}
use Rattle.rewriting_calls.specs.declared.RewritingAnswer.{RewritingAnswer}

-- the record of what the call makes of a record's graph, in the same form, and the response with it: by the causes but for 18, and to a caller
abbrev pub record_of : Form → Result → List ℕ
record_of f z = encode f sequence_graph z.status z.graph

abbrev pub rewriting_causes : RewritingCall → List ℕ → ℕ → List Cause
rewriting_causes call bs room = with_output (record_causes sequence_only bs) room (record_of (form_of bs) (result_of call (decode bs)))

abbrev pub rewriting_response : RewritingCall → List ℕ → ℕ → Response
rewriting_response call bs room = respond (rewriting_causes call bs room) (record_of (form_of bs) (result_of call (decode bs)))

abbrev pub rewriting_response_to : RewritingCall → List ℕ → ℕ → ℕ → Response
rewriting_response_to call bs room caller = respond (caller_cause caller ∷ rewriting_causes call bs room) (record_of (form_of bs) (result_of call (decode bs)))

-- the numbers that the call counted are the result's
pub record CountedAs (z : Result) (r : RewritingAnswer) : Type 0 where
  pub status : r.status ≡ z.status
  pub rewrites : r.rewrites ≡ z.rewrites
  pub rounds : r.rounds ≡ z.rounds
  pub end : r.end ≡ z.end

pub record RewritingAnswered (call : RewritingCall) (bs out : List ℕ) (r : RewritingAnswer) (out' : List ℕ) : Type 0 where
  pub sent : Responds (rewriting_response call bs (length out)) out r.sent out'
  pub counted : r.sent.number ≡ 0 → CountedAs (result_of call (decode bs)) r

pub record RewritingAnsweredTo (call : RewritingCall) (bs out : List ℕ) (caller : ℕ) (r : RewritingAnswer) (out' : List ℕ) : Type 0 where
  pub sent : Responds (rewriting_response_to call bs (length out) caller) out r.sent out'
  pub counted : r.sent.number ≡ 0 → CountedAs (result_of call (decode bs)) r

-- a held graph that can be rewritten, and what it becomes written as a record of this form
pub record HeldAnswerable (f : Form) (h : Held) (es vs p heads nexts nodes mp starts tried sig : List ℕ) : Type 0 where
  pub cleanable : Cleanable h es vs p heads nexts nodes mp starts tried sig
  pub fits : RoomFits f heads nexts

-- the promise, for every accepted record of this form that has the held graph
pub record HeldAnswered (call : RewritingCall) (f : Form) (h : Held) (es vs p out : List ℕ) (r : RewritingAnswer) (out' : List ℕ) : Type 0 where
  pub is : (bs : List ℕ) → f ≡ form_of bs → record_refusal sequence_only bs ≡ 0 → graph_of h es vs p ≡ decode bs → RewritingAnswered call bs out r out'
