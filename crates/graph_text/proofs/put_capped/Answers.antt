-- `graph_text::put_capped` meets its contract.
use Rattle.defs.specs.Lists.{tab_from}
use native.Mathlib.Omega.{arith}
use Rattle.text.specs.Printed.{ascii}
use Rattle.text.proofs.TextLaws.{put-most}
use Rattle.graph_text.proofs.GraphLaws.{put_one, put_other}
use Rattle.graph_text.proofs.put_capped.Goals as goal

pub returns-then-capped : goal.returns-then-capped
unfolding ascii tab_from
returns-then-capped c =
    put_one 2 c.args.capped (ascii "c\n") (ascii "\n") c.if-capped.true c.put_bytes.ensures

pub returns-else-capped : goal.returns-else-capped
unfolding ascii tab_from
returns-else-capped c =
    put_other 2 c.args.capped (ascii "c\n") (ascii "\n") c.if-capped.false (put-most (omega arith) c.put_bytes-else-capped.ensures)
