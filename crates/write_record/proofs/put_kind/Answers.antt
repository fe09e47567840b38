-- `write_record::put_kind` meets its contract.
use native.Mathlib.Omega.{arith}
use lib.ListN.{length-set}
use Rattle.write_record.proofs.WriteLaws.{kind-put}
use borrow.Author.Rules.{rules}
use Rattle.write_record.proofs.put_kind.Goals as goal

pub returns : goal.returns
returns c =
    kind-put _ c.args.status c.args.out.now c.put_mark.ensures
