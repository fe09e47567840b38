-- The record of a sequence graph, in the form f, and the room that writing it needs. Assumes nothing.
use Rattle.std.specs.Prelude.{◌≡◌, List, ◌++◌, ℕ, ◌+◌, ◌*◌, ◌≤◌, ◌<◌, length, get_or, drop}
use Rattle.defs.specs.Forms.{Form, edge_size}
use Rattle.defs.specs.Record.{word_bytes, edges_at, bytes_at, whole_length, sequence_graph, encode}
use Rattle.form.specs.Coded.{word_limit}
use Rattle.store.specs.Store.{EndsBelow, Within}
use Rattle.pool.specs.Pool.{bytes_in}
use Rattle.memory.specs.Memory.{graph_of}
use Rattle.memory.specs.declared.Held.{Held}

-- the bytes of a vertex's length
abbrev pub length_bytes : Form → List ℕ → ℕ → List ℕ
length_bytes f vs v = word_bytes f (get_or vs (2 * v + 1) 0)

-- the counts fit a word, the bytes and the whole length 32 bits
pub record HeaderCountable (f : Form) (n m b : ℕ) : Type 0 where
  pub n-fits : n < word_limit f
  pub m-fits : m < word_limit f
  pub whole-fits : whole_length f n m b < 4294967296

pub record LengthsFit (f : Form) (n : ℕ) (vs out : List ℕ) : Type 0 where
  pub vs-room : 2 * n ≤ length vs
  pub few : n < 4294967296
  pub room : edges_at f n ≤ length out
  pub fits : (v : ℕ) → v < n → get_or vs (2 * v + 1) 0 < word_limit f

pub record EdgeFits (f : Form) (es : List ℕ) (i at : ℕ) (out : List ℕ) : Type 0 where
  pub es-room : 4 * i + 4 ≤ length es
  pub room : at + edge_size f ≤ length out
  pub from : get_or es (4 * i) 0 < word_limit f
  pub to : get_or es (4 * i + 1) 0 < word_limit f

pub record EdgesFit (f : Form) (n m : ℕ) (es out : List ℕ) : Type 0 where
  pub es-room : 4 * m ≤ length es
  pub few : n < 4294967296
  pub few-edges : m < 4294967296
  pub room : bytes_at f n m ≤ length out
  pub fits : EndsBelow (word_limit f) m es

pub record SequencesFit (n : ℕ) (vs p : List ℕ) (at : ℕ) (out : List ℕ) : Type 0 where
  pub vs-room : 2 * n ≤ length vs
  pub within : Within (length p) n vs
  pub room : at + bytes_in n vs ≤ length out

-- a held graph whose record's length fits 32 bits
pub record Measured (f : Form) (h : Held) (vs : List ℕ) : Type 0 where
  pub vs-room : 2 * h.n ≤ length vs
  pub small : whole_length f h.n h.m (bytes_in h.n vs) < 4294967296

-- a held graph whose record fits `out`
pub record RecordWritable (f : Form) (status : ℕ) (h : Held) (es vs p out : List ℕ) : Type 0 where
  pub status-fits : status < 256
  pub n-fits : h.n < word_limit f
  pub m-fits : h.m < word_limit f
  pub lengths-fit : (v : ℕ) → v < h.n → get_or vs (2 * v + 1) 0 < word_limit f
  pub ends : EndsBelow h.n h.m es
  pub es-room : 4 * h.m ≤ length es
  pub within : Within (length p) h.n vs
  pub measured : Measured f h vs
  pub room : whole_length f h.n h.m (bytes_in h.n vs) ≤ length out

-- the record stands at the front of `out`; the rest is as it was
pub record RecordWritten (f : Form) (status : ℕ) (h : Held) (es vs p out : List ℕ) (r : ℕ) (out' : List ℕ) : Type 0 where
  pub long : r ≡ length (encode f sequence_graph status (graph_of h es vs p))
  pub is : out' ≡ encode f sequence_graph status (graph_of h es vs p) ++ drop (length (encode f sequence_graph status (graph_of h es vs p))) out
