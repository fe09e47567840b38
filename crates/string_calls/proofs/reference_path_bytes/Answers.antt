-- `string_calls::reference_path_bytes` meets its contract.
use Rattle.string_calls.proofs.StringLaws.{reference-tells}
use borrow.Author.Rules.{rules}
use Rattle.string_calls.proofs.reference_path_bytes.Goals as goal

pub returns : goal.returns
returns c = reference-tells _ _ _ c.answer.ensures
