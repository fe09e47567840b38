-- `index::has_several` meets its contract.
use lib.ListN.{get_or}
use native.Mathlib.Omega.{arith}
use Prim.Native.Nat.{◌+◌, ◌*◌}
use mathlib.Core.Path.{refl}
use Rattle.index.proofs.IndexLaws.{several-none, several-rest}
use borrow.Author.Rules.{rules}
use Rattle.index.proofs.has_several.Goals as goal

pub returns-then-m-e : goal.returns-then-m-e
returns-then-m-e c =
    several-none (c.requires.1.1.index _ c.requires.1.0) c.requires.0 _ refl c.if-m-e.true

pub returns : goal.returns
returns c =
    several-rest (c.requires.1.1.index _ c.requires.1.0) c.requires.0 _ _ refl c.if-m-e.false refl
