-- `rewriting::clean_up` meets its contract.
use Rattle.rewriting.proofs.RewritingLaws.{cleaned-as}
use Rattle.rewriting.proofs.clean_up.Goals as goal

pub returns : goal.returns
returns c =
    cleaned-as c.status_number.ensures c.cleanup_seq_graph-c.ensures
