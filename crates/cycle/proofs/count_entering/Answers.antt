-- `cycle::count_entering` meets its contract.
use native.Mathlib.Omega.{arith}
use Prim.Native.Nat.{◌-◌}
use Rattle.index.specs.Index.{edge_end}
use Rattle.cycle.proofs.PeelLaws.{Counting, counting-start, counting_more, counting-end, degree-most}
use Rattle.cycle.proofs.count_entering.Goals as goal

pub overflow_cast-degrees : goal.overflow_cast-degrees
overflow_cast-degrees c =
    omega (
      arith,
      c.degree.ensures,
      degree-most (edge_end 1 c.args.es.now) c.args.m c.loop-v.v,
      c.requires.1.0,
    )
