-- `compact::compact_vertices` meets its contract.
use native.Mathlib.Omega.{arith}
use Rattle.compact.proofs.CompactLaws.{compacted}
use borrow.Author.Rules.{rules}
use Rattle.compact.proofs.compact_vertices.Goals as goal

pub returns : goal.returns
returns c =
    compacted
    c.requires
    c.number.ensures
    c.close_vertices-left.ensures
    c.close_edges-kept.ensures
