-- `rewriting_calls::answer_lent` meets its contract.
use Rattle.rewriting_calls.proofs.AnsweredLaws.{lent-answerable, record-refused, record-answered}
use Rattle.rewriting_calls.proofs.answer_lent.Goals as goal

pub returns-in-Err : goal.returns-in-Err
returns-in-Err c =
    record-refused c.read_and_hold.ensures c.in-Err.is c.refused.ensures

pub answer_held-requires : goal.answer_held-requires
answer_held-requires c =
    let kept = c.read_and_hold.auto in
    lent-answerable c.requires kept.es kept.vs kept.p kept.heads kept.nexts kept.nodes kept.map c.read_and_hold.ensures c.in-Ok.is c.form_of-form.ensures

pub returns : goal.returns
returns c =
    record-answered
    c.read_and_hold.ensures
    c.in-Ok.is
    c.form_of-form.ensures
    c.answer_held.ensures
