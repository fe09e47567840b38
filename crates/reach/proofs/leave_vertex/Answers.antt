-- `reach::leave_vertex` meets its contract.
use Rattle.reach.proofs.ReachLaws.{vertex-left}
use Rattle.reach.proofs.leave_vertex.Goals as goal

pub returns : goal.returns
returns c = vertex-left c.requires.0 c.push_steps-t.ensures c.push_steps.ensures
