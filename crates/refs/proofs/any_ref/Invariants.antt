-- What each turn of the loop keeps.
use native.Mathlib.Omega.{arith}
use mathlib.Core.Path.{sym, ◌∙◌}
use Prim.Native.Nat.{◌+◌, ◌*◌, ◌-◌}
use borrow.Author.Tests.{eq-eqb, ne_eqb}
use Rattle.index.specs.Index.{edge_end}
use Rattle.refs.specs.Refs.{ref_at}
use Rattle.refs.proofs.RefLaws.{SeekingReference, seeking-start, seeking-more, seeking-found, seeking-end}
use Rattle.refs.proofs.any_ref.Given as goal

abbrev pub invariant-loop-e : goal.invariant-loop-e
invariant-loop-e l = SeekingReference (edge_end l.off l.es) l.m l.v (ref_at l.es) l.e

abbrev pub decreases-loop-e : goal.decreases-loop-e
decreases-loop-e l = l.m - l.e
