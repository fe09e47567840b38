-- `store::put_vertex` meets its contract.
use native.Mathlib.Omega.{arith}
use lib.ListN.{length-set}
use mathlib.Core.Path.{refl}
use Rattle.store.specs.Store.{put_vertex}
use borrow.Author.Rules.{rules}
use Rattle.store.proofs.put_vertex.Goals as goal

pub returns : goal.returns
unfolding put_vertex
returns c = refl
