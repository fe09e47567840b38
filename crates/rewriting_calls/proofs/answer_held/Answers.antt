-- `rewriting_calls::answer_held` meets its contract.
use Rattle.rewriting_calls.proofs.AnsweredLaws.{rewritten-sendable, held-answered}
use Rattle.rewriting_calls.proofs.answer_held.Goals as goal

pub send_record-sent-requires : goal.send_record-sent-requires
send_record-sent-requires c =
    rewritten-sendable
    c.rewrite-made.ensures
    c.requires
    c.rewrite-made.auto.es
    c.rewrite-made.auto.vs
    c.rewrite-made.auto.p

pub returns : goal.returns
returns c = held-answered c.rewrite-made.ensures c.send_record-sent.ensures
