-- What each turn of the loop keeps.
use native.Mathlib.Omega.{arith}
use Rattle.refs.proofs.RefLaws.{sink-as}
use Prim.Native.Nat.{ℕ, ◌<◌, ◌≤◌, ◌-◌}
use mathlib.Core.Bool.{false}
use borrow.Author.Count.{below_none, below_more}
use Rattle.refs.specs.Refs.{RefSink}
use Rattle.refs.proofs.RefLaws.{first-sink, no-sink}
use Rattle.refs.proofs.reference_sink_vertex.Given as goal

abbrev pub invariant-loop-v : goal.invariant-loop-v
invariant-loop-v l = (l.v ≤ l.n) × ((k : ℕ) → k < l.v → RefSink l.m l.n l.es k false)
