-- `rewriting::rewrite` meets its contract.
use Rattle.rewriting.proofs.RewritingLaws.{is-rewritten}
use Rattle.rewriting.proofs.rewrite.Goals as goal

pub returns-in-SimplifyGraph : goal.returns-in-SimplifyGraph
returns-in-SimplifyGraph c = is-rewritten c.in-SimplifyGraph.is c.simplify.ensures

pub returns-in-CleanupSeqGraph : goal.returns-in-CleanupSeqGraph
returns-in-CleanupSeqGraph c = is-rewritten c.in-CleanupSeqGraph.is c.clean_up.ensures
