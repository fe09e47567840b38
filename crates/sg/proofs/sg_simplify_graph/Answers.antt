-- `sg::sg_simplify_graph`: the law of tallied calls, at its core and what that promises.
use Rattle.simplify_graph.specs.Simplifies.{Simplifies}
use Rattle.tallied_calls.proofs.Answers.{simplify-answer-kind}
use Rattle.tallied_calls.proofs.SharedMut.{call-meets}
use Rattle.sg.specs.OnTable.{SimplifiesOn}
use Rattle.sg.proofs.CountedLaws.{simplifies-raises}
use Rattle.sg.proofs.sg_simplify_graph.Goals as goal

pub returns : goal.returns
returns c =
    call-meets simplify-answer-kind Simplifies SimplifiesOn (λ rec out c d out' h h' p R. (p, simplifies-raises p R))
    c.args.rec.now c.args.out.now c.args.caller c.simplify_graph-r.result c.simplify_graph-r.new.out
    c.args.table.now c.count_call.new.table c.simplify_graph-r.ensures c.count_call.ensures
