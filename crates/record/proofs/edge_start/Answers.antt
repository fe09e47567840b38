-- `record::edge_start` meets its contract.
use native.Mathlib.Omega.{arith}
use mathlib.Core.Path.{◌∙◌}
use Rattle.record.proofs.Fields.{start-read}
use borrow.Author.Rules.{rules}
use Rattle.record.proofs.edge_start.Goals as goal

pub returns : goal.returns
returns c =
    c.bytes_at.ensures ∙ start-read _ _ c.requires.0.is _ c.vertex_count.ensures.0
