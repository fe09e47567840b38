-- `show::show_in` meets its contract.
use native.Mathlib.Omega.{arith}
use Rattle.show.proofs.ShowLaws.{long-shown, call-printing, call-shown}
use Rattle.show.proofs.show_in.Goals as goal

pub returns-then-rec-gt-RECORD_MOST : goal.returns-then-rec-gt-RECORD_MOST
returns-then-rec-gt-RECORD_MOST c =
    long-shown _ c.if-rec-gt-RECORD_MOST.true c.requires.1 c.put_refusal.ensures

pub put_answer-requires : goal.put_answer-requires
put_answer-requires c = (
  call-printing (λ i. omega (arith, c.type_inv.rec i)) c.requires.0
      c.simplify_graph-made.ensures c.simplify_graph-made.auto.out,
  c.requires.1,
)

pub returns : goal.returns
returns c =
    call-shown
    (λ i. omega (arith, c.type_inv.rec i))
    c.requires.0
    c.simplify_graph-made.ensures
    c.simplify_graph-made.auto.out
    c.if-rec-gt-RECORD_MOST.false
    c.requires.1
    c.put_answer.ensures
