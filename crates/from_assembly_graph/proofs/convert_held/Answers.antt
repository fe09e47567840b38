-- `from_assembly_graph::convert_held` meets its contract.
use Rattle.from_assembly_graph.proofs.ConvertsLaws.{held-convertible, made-sendable, made-sent}
use Rattle.from_assembly_graph.proofs.convert_held.Goals as goal

pub convert-converted-requires : goal.convert-converted-requires
convert-converted-requires c =
    held-convertible c.requires

pub send-requires : goal.send-requires
send-requires c = made-sendable c.requires c.form_of-form.ensures c.convert-converted.ensures c.map_err-made.ensures.cases

pub returns : goal.returns
returns c =
    made-sent c.requires c.form_of-form.ensures c.convert-converted.ensures c.map_err-made.ensures.cases c.send.ensures
