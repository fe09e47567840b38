-- `merge_suffices::is_merge` meets its contract.
use native.Mathlib.Omega.{arith}
use borrow.Author.Tests.{le-ltb}
use Rattle.merge_suffices.proofs.TestLaws.{merge_none, merge-all}
use Rattle.merge_suffices.proofs.is_merge.Goals as goal

pub returns-then-c-gt0 : goal.returns-then-c-gt0
returns-then-c-gt0 c = merge-all (λ q. omega arith) c.requires.0 c.all_prevs.ensures

pub returns-else-c-gt0 : goal.returns-else-c-gt0
returns-else-c-gt0 c = rw (le-ltb 0 c.args.c (omega arith)) (merge_none (omega arith))
