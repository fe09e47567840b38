-- `rewriting::read_and_hold` meets its contract.
use Rattle.std.proofs.lemmas.Result.{err_from_is_err_and}
use Rattle.rewriting.proofs.RewritingLaws.{held-refused, lent-poolable, held-pooled}
use Rattle.rewriting.proofs.read_and_hold.Goals as goal

pub returns-in_err-held : goal.returns-in_err-held
returns-in_err-held c =
    let p = err_from_is_err_and c.from_residual.result c.from_residual.ensures.1 in
    rw (p.1, p.2) (held-refused c.read_sequence_graph.ensures c.in_err-held.was)

pub load_pool-requires : goal.load_pool-requires
load_pool-requires c =
    lent-poolable
    c.read_sequence_graph.ensures
    c.in_ok-held.was
    c.requires
    c.read_sequence_graph.auto.vs

pub returns : goal.returns
returns c =
    held-pooled
    c.read_sequence_graph.ensures
    c.in_ok-held.was
    c.requires
    c.load_pool.ensures
    c.read_sequence_graph.auto.heads
    c.read_sequence_graph.auto.nexts
