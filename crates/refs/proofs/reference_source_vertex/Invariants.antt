-- What each turn of the loop keeps.
use native.Mathlib.Omega.{arith}
use Rattle.refs.proofs.RefLaws.{source-as}
use Prim.Native.Nat.{ℕ, ◌<◌, ◌≤◌, ◌-◌}
use mathlib.Core.Bool.{false}
use borrow.Author.Count.{below_none, below_more}
use Rattle.refs.specs.Refs.{RefSource}
use Rattle.refs.proofs.RefLaws.{first-source, no_source}
use Rattle.refs.proofs.reference_source_vertex.Given as goal

abbrev pub invariant-loop-v : goal.invariant-loop-v
invariant-loop-v l = (l.v ≤ l.n) × ((k : ℕ) → k < l.v → RefSource l.m l.n l.es k false)
