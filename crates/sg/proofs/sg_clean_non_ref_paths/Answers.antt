-- `sg::sg_clean_non_ref_paths`: the law of tallied calls, at its core and what that promises.
use Rattle.clean_non_ref_paths.specs.CleansPaths.{CleansPaths}
use Rattle.tallied_calls.proofs.Answers.{answer-kind}
use Rattle.tallied_calls.proofs.SharedMut.{call-meets}
use Rattle.sg.specs.OnTable.{CleansPathsOn}
use Rattle.sg.proofs.CountedLaws.{cleans-paths-raises}
use Rattle.sg.proofs.sg_clean_non_ref_paths.Goals as goal

pub returns : goal.returns
returns c =
    call-meets answer-kind CleansPaths CleansPathsOn (λ rec out c d out' h h' p R. (p, cleans-paths-raises p R))
    c.args.rec.now c.args.out.now c.args.caller c.clean_non_ref_paths-r.result c.clean_non_ref_paths-r.new.out
    c.args.table.now c.count_call.new.table c.clean_non_ref_paths-r.ensures c.count_call.ensures
