-- `split_and_update::push_edge_if` meets its contract.
use Rattle.split_and_update.proofs.PushLaws.{pushed-not, pushed-yes, room-yes}
use Rattle.split_and_update.proofs.push_edge_if.Goals as goal

pub returns-then-not-test : goal.returns-then-not-test
returns-then-not-test c =
    record {
      is = pushed-not c.args.test c.args.a c.args.b c.args.s c.args.f
          c.if-not-test.true;
    }

pub put_edge-requires : goal.put_edge-requires
put_edge-requires c =
    room-yes c.args.k c.args.es.now c.args.test c.if-not-test.false c.requires

pub returns : goal.returns
returns c =
    record {
      is = pushed-yes c.args.test c.args.a c.args.b c.args.s c.args.f
          c.if-not-test.false c.requires c.put_edge.ensures;
    }
