-- `record::wrong_mark` meets its contract.
use native.Mathlib.Omega.{arith}
use mathlib.Core.Path.{sym, ◌∙◌}
use borrow.Author.Tests.{not-true, not-false}
use Rattle.record.specs.Kinds.{takes_of}
use Rattle.record.proofs.Fields.{header-long}
use Rattle.record.proofs.Tests.{other-mark, other-kind, other-status, kmer-status, sequence-status}
use borrow.Author.Rules.{rules}
use Rattle.record.proofs.wrong_mark.Goals as goal

pub returns-then-not-has_mark : goal.returns-then-not-has_mark
returns-then-not-has_mark c =
    other-mark
    (takes_of c.args.takes)
    c.args.rec.now
    (sym c.has_mark.ensures ∙ c.if-not-has_mark.true)

pub bounds-rec-4 : goal.bounds-rec-4
bounds-rec-4 c = omega (arith, header-long c.requires)

pub returns-then-not-takes_kind : goal.returns-then-not-takes_kind
returns-then-not-takes_kind c =
    other-kind
    (takes_of c.args.takes)
    c.args.rec.now
    (sym c.has_mark.ensures ∙ c.if-not-has_mark.false)
    (sym c.takes_kind.ensures ∙ c.if-not-takes_kind.true)

pub bounds-rec-5 : goal.bounds-rec-5
bounds-rec-5 c = omega (arith, header-long c.requires)

pub returns-then-rec-gt2 : goal.returns-then-rec-gt2
returns-then-rec-gt2 c =
    other-status
    (takes_of c.args.takes)
    c.args.rec.now
    (sym c.has_mark.ensures ∙ c.if-not-has_mark.false)
    (sym c.takes_kind.ensures ∙ c.if-not-takes_kind.false)
    c.if-rec-gt2.true

pub bounds-rec-4-2 : goal.bounds-rec-4-2
bounds-rec-4-2 c = omega (arith, header-long c.requires)

pub bounds-rec-5-then-rec-eq0 : goal.bounds-rec-5-then-rec-eq0
bounds-rec-5-then-rec-eq0 c = omega (arith, header-long c.requires)

pub returns-then-rec-eq0 : goal.returns-then-rec-eq0
returns-then-rec-eq0 c =
    kmer-status
    (takes_of c.args.takes)
    c.args.rec.now
    (sym c.has_mark.ensures ∙ c.if-not-has_mark.false)
    (sym c.takes_kind.ensures ∙ c.if-not-takes_kind.false)
    c.if-rec-gt2.false
    c.if-rec-eq0.true

pub returns : goal.returns
returns c =
    sequence-status
    (takes_of c.args.takes)
    c.args.rec.now
    (sym c.has_mark.ensures ∙ c.if-not-has_mark.false)
    (sym c.takes_kind.ensures ∙ c.if-not-takes_kind.false)
    c.if-rec-gt2.false
    c.if-rec-eq0.false
