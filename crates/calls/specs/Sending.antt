-- A record that is written where it fits. Assumes nothing.
use Rattle.std.specs.Prelude.{◌≡◌, Result, Ok, Err, List, [], ◌∷◌, ◌++◌, ℕ, ◌≤◌, ◌<◌, length}
use Rattle.defs.specs.Forms.{Form}
use Rattle.defs.specs.Record.{whole_length, sequence_graph, encode}
use Rattle.defs.specs.Refusals.{Cause, refusal_of}
use Rattle.defs.specs.Calls.{Response, output_cause, respond, number_of, length_of, written_of}
use Rattle.laws.proofs.Causes.{CausesNumbered}
use Rattle.store.specs.Store.{Within}
use Rattle.pool.specs.Pool.{bytes_in}
use Rattle.form.specs.Coded.{word_limit}
use Rattle.memory.specs.Memory.{graph_of, vertex_room, edge_room}
use Rattle.memory.specs.declared.Held.{Held}
use Rattle.write_record.specs.Written.{Measured, RecordWritable}
use Rattle.calls.specs.declared.Answer.{Answer}

-- a held graph whose record can be written wherever there is room
pub record Sendable (f : Form) (status : ℕ) (h : Held) (es vs p : List ℕ) : Type 0 where
  pub measured : Measured f h vs
  pub within : Within (length p) h.n vs
  pub writable : (out : List ℕ) → whole_length f h.n h.m (bytes_in h.n vs) ≤ length out → RecordWritable f status h es vs p out

-- as many vertices, bytes and edges as there is room for fit a record of this form
pub record RoomFits (f : Form) (heads nexts : List ℕ) : Type 0 where
  pub vertices : vertex_room heads < word_limit f
  pub edges : edge_room nexts < word_limit f
  pub vertices-most : vertex_room heads ≤ 163840
  pub edges_most : edge_room nexts ≤ 262144

-- causes with 11 behind them, and the response where 11 alone can be present
abbrev pub with_output : List Cause → ℕ → List ℕ → List Cause
with_output causes room result = causes ++ (output_cause room result ∷ [])

unfoldable pub fits : ℕ → List ℕ → Response
fits room result = respond (output_cause room result ∷ []) result

-- The promise of what a call sends: number, length and the output at exit are those of its response.
pub record Responds (x : Response) (out : List ℕ) (s : Answer) (out' : List ℕ) : Type 0 where
  pub number : s.number ≡ number_of x
  pub size : s.length ≡ length_of x
  pub written : out' ≡ written_of x out

-- the number of the refusal; 0 where there is a graph
unfoldable pub made_number : Result Held ℕ → ℕ
made_number (Ok h) = 0
made_number (Err n) = n

-- What was made of a record, by the causes but for 11: a refusal's number, which is not 0, or a graph in the slices whose record, with this
-- status, is the result.
pub record Makes (f : Form) (causes : List Cause) (status : ℕ) (result : List ℕ) (r : Result Held ℕ) (es vs p : List ℕ) : Type 0 where
  pub numbered : CausesNumbered causes
  pub number : made_number r ≡ refusal_of causes
  pub is : (h : Held) → r ≡ Ok h → encode f sequence_graph status (graph_of h es vs p) ≡ result
  pub refused : (n : ℕ) → r ≡ Err n → n ≡ 0 → ⊥

pub record GraphSendable (f : Form) (status : ℕ) (r : Result Held ℕ) (es vs p : List ℕ) : Type 0 where
  pub sendable : (h : Held) → r ≡ Ok h → Sendable f status h es vs p

-- what is sent responds to the causes, whatever they are, and 11 behind them, with that record
pub record SendsGraph (f : Form) (status : ℕ) (r : Result Held ℕ) (es vs p out : List ℕ) (s : Answer) (out' : List ℕ) : Type 0 where
  pub is : (causes : List Cause) (result : List ℕ) → Makes f causes status result r es vs p
      → Responds (respond (with_output causes (length out) result) result) out s out'
