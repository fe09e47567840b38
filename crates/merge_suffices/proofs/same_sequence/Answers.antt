-- `merge_suffices::same_sequence` meets its contract.
use mathlib.Core.Path.{◌∙◌}
use borrow.Author.Tests.{ne_eqb}
use Rattle.merge_suffices.proofs.TestLaws.{lengths_differ}
use Rattle.merge_suffices.proofs.same_sequence.Goals as goal

pub returns-else-n-vertex_len : goal.returns-else-n-vertex_len
returns-else-n-vertex_len c =
    ne_eqb _ _ c.if-n-vertex_len.false
    ∙ lengths_differ c.requires c.vertex_len-n.ensures c.vertex_len.ensures c.if-n-vertex_len.false
