-- `sg::sg_reference_path_bytes`: the law of tallied calls, at its core and what that promises.
use Rattle.std.specs.Prelude.{length}
use Rattle.defs.specs.Calls.{reference_path_bytes_response}
use Rattle.string_calls.specs.TellsBytes.{TellsBytes}
use Rattle.tallied_calls.proofs.Answers.{answer-kind}
use Rattle.tallied_calls.proofs.SharedMut.{call-meets}
use Rattle.sg.specs.OnTable.{TellsReferenceOn}
use Rattle.sg.proofs.CountedLaws.{reference-raises}
use Rattle.sg.proofs.sg_reference_path_bytes.Goals as goal

pub returns : goal.returns
returns c =
    call-meets answer-kind (λ rec out c. TellsBytes rec (reference_path_bytes_response rec (length out) c) out) TellsReferenceOn
    (λ rec out c d out' h h' p R. (p, reference-raises rec p R))
    c.args.rec.now c.args.out.now c.args.caller c.reference_path_bytes-r.result c.reference_path_bytes-r.new.out
    c.args.table.now c.count_call.new.table c.reference_path_bytes-r.ensures c.count_call.ensures
