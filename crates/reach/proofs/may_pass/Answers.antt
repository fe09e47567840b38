-- `reach::may_pass` meets its contract.
use Rattle.reach.proofs.StepLaws.{pass-plain, pass-any}
use Rattle.reach.proofs.may_pass.Goals.{then-plain, else-plain}
use Rattle.reach.proofs.may_pass.Goals as goal

pub returns : goal.returns
returns c = elim c.if-plain.branch [
  | then-plain w ↦ rw w.result-is (pass-plain c.args.plain c.args.es.now c.args.e w.if-plain.true w.edge_is_ref.ensures)
  | else-plain w ↦ rw w.result-is (pass-any c.args.plain c.args.es.now c.args.e w.if-plain.false)
]
