-- `store::put_edge` meets its contract.
use mathlib.Core.Path.{refl}
use native.Mathlib.Omega.{arith}
use lib.ListN.{length-set}
use Rattle.store.specs.Store.{put_edge}
use borrow.Author.Rules.{rules}
use Rattle.store.proofs.put_edge.Goals as goal

pub returns : goal.returns
unfolding put_edge
returns c = refl
