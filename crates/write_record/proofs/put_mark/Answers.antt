-- `write_record::put_mark` meets its contract.
use native.Mathlib.Omega.{arith}
use Rattle.write_record.proofs.WriteLaws.{mark-put-1, mark-put-2}
use borrow.Author.Rules.{rules}
use Rattle.write_record.proofs.put_mark.Goals as goal

pub returns-in-Sgr1 : goal.returns-in-Sgr1
returns-in-Sgr1 c =
    mark-put-1 _ c.args.out.now c.in-Sgr1.is c.put_letters.ensures

pub returns-in-Sgr2 : goal.returns-in-Sgr2
returns-in-Sgr2 c =
    mark-put-2 _ c.args.out.now c.in-Sgr2.is c.put_letters-in-Sgr2.ensures
