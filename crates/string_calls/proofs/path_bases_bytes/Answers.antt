-- `string_calls::path_bases_bytes` meets its contract.
use Rattle.string_calls.proofs.StringLaws.{path-tells}
use borrow.Author.Rules.{rules}
use Rattle.string_calls.proofs.path_bases_bytes.Goals as goal

pub returns : goal.returns
returns c = path-tells _ _ _ _ c.answer.ensures
