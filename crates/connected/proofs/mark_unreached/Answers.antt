-- `connected::mark_unreached` meets its contract.
use Rattle.reach.proofs.Directions.{number-is}
use Rattle.connected.proofs.ConnectedLaws.{unreached}
use Rattle.connected.proofs.mark_unreached.Goals as goal

pub returns : goal.returns
returns c =
    unreached (rw (number-is c.args.direction) at c.mark_reached.ensures) c.mark_missed.ensures
