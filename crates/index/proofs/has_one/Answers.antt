-- `index::has_one` meets its contract.
use lib.ListN.{get_or}
use native.Mathlib.Omega.{arith}
use Prim.Native.Nat.{◌+◌, ◌*◌}
use mathlib.Core.Path.{refl}
use Rattle.index.proofs.IndexLaws.{one_none, one-rest}
use borrow.Author.Rules.{rules}
use Rattle.index.proofs.has_one.Goals as goal

pub returns-then-m-e : goal.returns-then-m-e
returns-then-m-e c =
    one_none (c.requires.1.1.index _ c.requires.1.0) c.requires.0 _ refl c.if-m-e.true

pub returns : goal.returns
returns c =
    one-rest (c.requires.1.1.index _ c.requires.1.0) c.requires.0 _ _ refl c.if-m-e.false refl
