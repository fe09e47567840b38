-- `record::has_mark` meets its contract.
use native.Mathlib.Omega.{arith}
use mathlib.Core.Path.{◌∙◌, sym, ap}
use lib.ListN.{take}
use Rattle.defs.specs.Lists.{same_list}
use Rattle.defs.specs.Forms.{mark}
use Rattle.record.proofs.Fields.{header-long}
use Rattle.record.proofs.Tests.{mark-1, mark-2}
use borrow.Author.Rules.{rules}
use Rattle.record.proofs.has_mark.Goals as goal

pub begins_with-requires : goal.begins_with-requires
begins_with-requires c = (omega (arith, header-long c.requires), search rules)

pub returns-in-Sgr1 : goal.returns-in-Sgr1
returns-in-Sgr1 c =
    mark-1
    c.args.form
    c.args.rec.now
    c.requires.is
    c.in-Sgr1.is
    c.begins_with.ensures

pub returns-in-Sgr2 : goal.returns-in-Sgr2
returns-in-Sgr2 c =
    mark-2 c.args.form c.args.rec.now c.requires.is c.in-Sgr2.is
