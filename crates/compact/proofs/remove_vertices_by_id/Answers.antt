-- `compact::remove_vertices_by_id` meets its contract.
use native.Mathlib.Omega.{arith}
use Rattle.compact.proofs.CompactLaws.{removed}
use borrow.Author.Rules.{rules}
use Rattle.compact.proofs.remove_vertices_by_id.Goals as goal

pub returns : goal.returns
returns c =
    removed c.requires.0 c.mark_gone.ensures c.compact_vertices.ensures
