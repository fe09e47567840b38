-- `refs::reference_sink_vertex` meets its contract.
use native.Mathlib.Omega.{arith}
use Rattle.refs.proofs.RefLaws.{sink-as}
use Prim.Native.Nat.{ℕ, ◌<◌, ◌≤◌, ◌-◌}
use mathlib.Core.Bool.{false}
use borrow.Author.Count.{below_none, below_more}
use Rattle.refs.specs.Refs.{RefSink}
use Rattle.refs.proofs.RefLaws.{first-sink, no-sink}
use Rattle.refs.proofs.reference_sink_vertex.Goals as goal

pub returns-then-is_ref_sink : goal.returns-then-is_ref_sink
returns-then-is_ref_sink c =
    first-sink _ (omega arith) c.loop-v.invariant.1 (sink-as c.if-is_ref_sink.true c.is_ref_sink.ensures)

pub returns : goal.returns
returns c = no-sink _ c.loop-v-test.false c.loop-v.invariant.1
