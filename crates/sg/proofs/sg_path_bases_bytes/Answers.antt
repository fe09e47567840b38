-- `sg::sg_path_bases_bytes`: the law of tallied calls, at its core and what that promises.
use Rattle.std.specs.Prelude.{length}
use Rattle.defs.specs.Calls.{path_bases_bytes_response}
use Rattle.string_calls.specs.TellsBytes.{TellsBytes}
use Rattle.tallied_calls.proofs.Answers.{answer-kind}
use Rattle.tallied_calls.proofs.SharedNumberSharedMut.{call-meets}
use Rattle.sg.specs.OnTable.{TellsPathOn}
use Rattle.sg.proofs.CountedLaws.{path-raises}
use Rattle.sg.proofs.sg_path_bases_bytes.Goals as goal

pub returns : goal.returns
returns c =
    call-meets answer-kind (λ rec start edges out c. TellsBytes rec (path_bases_bytes_response rec start edges (length out) c) out) TellsPathOn
    (λ rec start edges out c d out' h h' p R. (p, path-raises rec start edges p R))
    c.args.rec.now c.args.start c.args.edges.now c.args.out.now c.args.caller c.path_bases_bytes-r.result c.path_bases_bytes-r.new.out
    c.args.table.now c.count_call.new.table c.path_bases_bytes-r.ensures c.count_call.ensures
