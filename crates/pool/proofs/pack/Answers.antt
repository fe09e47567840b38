-- `pool::pack` meets its contract.
use native.Mathlib.Omega.{arith}
use mathlib.Core.Logic.{inr}
use Rattle.pool.proofs.PoolLaws.{packed-front}
use borrow.Author.Rules.{rules}
use Rattle.pool.proofs.pack.Goals as goal

pub returns : goal.returns
returns c =
    packed-front c.requires c.gather-used.ensures c.copy_within.ensures
