-- `refs::reference_source_vertex` meets its contract.
use native.Mathlib.Omega.{arith}
use Rattle.refs.proofs.RefLaws.{source-as}
use Prim.Native.Nat.{ℕ, ◌<◌, ◌≤◌, ◌-◌}
use mathlib.Core.Bool.{false}
use borrow.Author.Count.{below_none, below_more}
use Rattle.refs.specs.Refs.{RefSource}
use Rattle.refs.proofs.RefLaws.{first-source, no_source}
use Rattle.refs.proofs.reference_source_vertex.Goals as goal

pub returns-then-is_ref_source : goal.returns-then-is_ref_source
returns-then-is_ref_source c =
    first-source _
    (omega arith)
    c.loop-v.invariant.1
    (source-as c.if-is_ref_source.true c.is_ref_source.ensures)

pub returns : goal.returns
returns c =
    no_source _ c.loop-v-test.false c.loop-v.invariant.1
