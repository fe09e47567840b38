-- `clean_non_ref_paths::clean_non_ref_paths` meets its contract.
use native.Mathlib.Omega.{arith}
use Rattle.clean_non_ref_paths.proofs.PathsLaws.{cleans-paths}
use borrow.Author.Rules.{rules}
use Rattle.clean_non_ref_paths.proofs.clean_non_ref_paths.Goals as goal

pub returns : goal.returns
returns c =
    cleans-paths _ _ _ (λ i. omega (arith, c.type_inv.rec i)) c.answer.ensures
