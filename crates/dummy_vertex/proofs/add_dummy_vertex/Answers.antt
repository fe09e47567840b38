-- `dummy_vertex::add_dummy_vertex` meets its contract.
use mathlib.Core.Path.{refl}
use Rattle.dummy_vertex.proofs.DummyLaws.{dummy-none, dummy-one}
use Rattle.dummy_vertex.proofs.add_dummy_vertex.Goals as goal

pub returns-then-held-ne1 : goal.returns-then-held-ne1
returns-then-held-ne1 c = dummy-none c.args.held c.if-held-ne1.true

pub returns : goal.returns
returns c =
    dummy-one
    c.args.held
    c.args.es.now
    c.args.vs.now
    c.requires.0
    c.requires.1
    c.if-held-ne1.false
    c.put_vertex.ensures
    c.put_edge.ensures refl
