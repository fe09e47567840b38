-- What an edge carries, from its support and its flag. Assumes nothing.
use Rattle.std.specs.Prelude.{ℕ}
use Rattle.defs.specs.SeqGraph.{EdgeData}
use Rattle.defs.specs.Record.{flag_is_ref, flag_is_capped}
use Rattle.edge_data.specs.declared.Carried.{Carried}

abbrev pub carries : ℕ → ℕ → EdgeData
carries s f = record { support = s; is_ref = flag_is_ref f; capped = flag_is_capped f }

abbrev pub carried_data : Carried → EdgeData
carried_data c = carries c.support c.flag
