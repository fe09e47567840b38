-- `reach::mark_reached` meets its contract.
use native.Mathlib.Omega.{arith}
use Rattle.reach.proofs.Directions.{reached-either}
use Rattle.reach.proofs.mark_reached.Goals.{in-0, in-1, in_default}
use Rattle.reach.proofs.mark_reached.Goals as goal

pub returns : goal.returns
returns c = elim c.match-kind.branch [
  | in-0 w ↦ rw w.in-0.is (rw w.direction-is at c.walk.ensures)
  | in-1 w ↦ rw w.in-1.is (rw w.direction-is at c.walk.ensures)
  | in_default w ↦ reached-either c.args.plain c.args.kind (omega arith) (rw w.direction-is at c.walk.ensures)
]
