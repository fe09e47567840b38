-- `split_and_update::push_rests` meets its contract.
use native.Mathlib.Omega.{arith}
use Rattle.split_and_update.proofs.LoopLaws.{rests-start, rests-asks, rests-next}
use Rattle.split_and_update.proofs.push_rests.Goals as goal

pub loop-i-init : goal.loop-i-init
loop-i-init c = (omega arith, rests-start _ _ _ _ _ _)

pub push_rest-j-requires : goal.push_rest-j-requires
push_rest-j-requires c =
    let asks = rests-asks c.requires c.loop-i.invariant.1 (omega arith) c.vertex_start-start.ensures c.vertex_len-len.ensures in
    record { y_bound = asks.0; k_in_bounds = asks.1 }

pub loop-i-preserved : goal.loop-i-preserved
loop-i-preserved c = (
  omega arith,
  rests-next c.requires c.loop-i.invariant.1 (omega arith)
      c.vertex_start-start.ensures c.vertex_len-len.ensures c.push_rest-j.ensures,
)
