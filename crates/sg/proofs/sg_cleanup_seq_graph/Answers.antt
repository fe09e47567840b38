-- `sg::sg_cleanup_seq_graph`: the law of tallied calls, at its core and what that promises.
use Rattle.cleanup_seq_graph.specs.Cleans.{CleansCounted}
use Rattle.tallied_calls.proofs.Answers.{counted-cleanup-kind}
use Rattle.tallied_calls.proofs.SharedMut.{call-meets}
use Rattle.sg.specs.OnTable.{CleansOn}
use Rattle.sg.proofs.CountedLaws.{cleans-raises}
use Rattle.sg.proofs.sg_cleanup_seq_graph.Goals as goal

pub returns : goal.returns
returns c =
    call-meets counted-cleanup-kind CleansCounted CleansOn (λ rec out c d out' h h' p R. (p.cleans, cleans-raises p R))
    c.args.rec.now c.args.out.now c.args.caller c.cleanup_seq_graph-r.result c.cleanup_seq_graph-r.new.out
    c.args.table.now c.count_call.new.table c.cleanup_seq_graph-r.ensures c.count_call.ensures
