-- `rewriting::simplify` meets its contract.
use Rattle.choice.proofs.ChoiceLaws.{cleanable-simplifiable}
use Rattle.rewriting.proofs.RewritingLaws.{simplified-as}
use Rattle.rewriting.proofs.simplify.Goals as goal

pub simplify_graph_full-s-requires : goal.simplify_graph_full-s-requires
simplify_graph_full-s-requires c =
    cleanable-simplifiable c.requires

pub returns : goal.returns
returns c =
    simplified-as c.simplify_graph_full-s.ensures
