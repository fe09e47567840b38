-- `graph_text::put_end` meets its contract.
use native.Mathlib.Omega.{arith}
use Rattle.defs.specs.Lists.{tab_from}
use Rattle.text.specs.Printed.{ascii}
use Rattle.graph_text.proofs.GraphLaws.{end_quiet, end-repeated, end-full}
use Rattle.graph_text.proofs.put_end.Goals as goal

pub returns-in-1 : goal.returns-in-1
unfolding ascii tab_from
returns-in-1 c = end_quiet c.args.end c.in-1.is c.put_bytes.ensures

pub returns-in-2 : goal.returns-in-2
unfolding ascii tab_from
returns-in-2 c = end-repeated c.args.end (λ q. omega arith) c.in-2.is c.put_bytes-in-2.ensures

pub returns-in_default : goal.returns-in_default
unfolding ascii tab_from
returns-in_default c = end-full c.args.end (λ q. omega arith) (λ q. omega arith) c.put_bytes-in_default.ensures
