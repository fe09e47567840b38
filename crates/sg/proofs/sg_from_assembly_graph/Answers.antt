-- `sg::sg_from_assembly_graph`: the law of tallied calls, at its core and what that promises.
use Rattle.from_assembly_graph.specs.Converts.{Converts}
use Rattle.tallied_calls.proofs.Answers.{answer-kind}
use Rattle.tallied_calls.proofs.SharedMut.{call-meets}
use Rattle.sg.specs.OnTable.{ConvertsOn}
use Rattle.sg.proofs.CountedLaws.{converts-raises}
use Rattle.sg.proofs.sg_from_assembly_graph.Goals as goal

pub returns : goal.returns
returns c =
    call-meets answer-kind Converts ConvertsOn (λ rec out c d out' h h' p R. (p, converts-raises p R))
    c.args.rec.now c.args.out.now c.args.caller c.from_assembly_graph-r.result c.from_assembly_graph-r.new.out
    c.args.table.now c.count_call.new.table c.from_assembly_graph-r.ensures c.count_call.ensures
