-- A record whose header can be read by its form, and whose lengths and edges can. Assumes nothing.
use Rattle.std.specs.Prelude.{ℕ, ◌+◌, ◌≤◌, ◌<◌, ◌≡◌, List, length}
use Rattle.defs.specs.Forms.{form_of, word_size, lengths_at, edge_size}
use Rattle.defs.specs.Record.{vertices_of, edges_of, edges_at, bytes_at, edge_start}
use Rattle.form.specs.declared.Form.{Form}
use Rattle.form.specs.Coded.{form_is}

-- the form is the record's, and the header lies in it
pub record Headed (form : Form) (bs : List ℕ) : Type 0 where
  pub is : form_is form ≡ form_of bs
  pub long : lengths_at (form_of bs) ≤ length bs

-- length i lies in the record; the first v do
pub record LengthInside (form : Form) (bs : List ℕ) (i : ℕ) : Type 0 where
  pub headed : Headed form bs
  pub few : i < 4294967296
  pub inside : edges_at (form_of bs) i + word_size (form_of bs) ≤ length bs

pub record LengthsInside (form : Form) (bs : List ℕ) (v : ℕ) : Type 0 where
  pub headed : Headed form bs
  pub few : v < 4294967296
  pub inside : edges_at (form_of bs) v ≤ length bs

-- edge i lies in the record; all do
pub record EdgeInside (form : Form) (bs : List ℕ) (i : ℕ) : Type 0 where
  pub headed : Headed form bs
  pub few : i < 4294967296
  pub inside : edge_start bs i + edge_size (form_of bs) ≤ length bs

pub record EdgesInside (form : Form) (bs : List ℕ) : Type 0 where
  pub headed : Headed form bs
  pub inside : bytes_at (form_of bs) (vertices_of bs) (edges_of bs) ≤ length bs
