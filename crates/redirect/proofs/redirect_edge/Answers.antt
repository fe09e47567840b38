-- `redirect::redirect_edge` meets its contract.
use native.Mathlib.Omega.{arith}
use Rattle.std.proofs.lemmas.Grind.{common_steps}
use Rattle.redirect.proofs.RedirectLaws.{one-done}
use Rattle.redirect.proofs.redirect_edge.Goals as goal

pub returns : goal.returns
returns c =
    one-done
    c.requires
    c.edge_end-x.ensures
    (grind (arith, common_steps))
    (grind (arith, common_steps))
    (grind (arith, common_steps))
    c.carried.ensures
    c.add_or_update_edge-k.ensures.1
