-- `non_ref_paths::edge_stays` meets its contract.
use Rattle.non_ref_paths.proofs.EdgeKeeping.{stays-ref, stays-unmarked}
use mathlib.Core.Path.{sym, ◌∙◌}
use Rattle.non_ref_paths.proofs.edge_stays.Goals as goal

pub returns-then-edge_is_ref : goal.returns-then-edge_is_ref
returns-then-edge_is_ref c =
    c.if-edge_is_ref.true ∙ stays-ref
    c.args.off
    c.args.marks.now
    c.args.es.now
    c.args.e
    (sym c.edge_is_ref.ensures ∙ c.if-edge_is_ref.true)

pub returns-else-edge_is_ref : goal.returns-else-edge_is_ref
returns-else-edge_is_ref c =
    stays-unmarked
    c.args.off
    c.args.marks.now
    c.args.es.now
    c.args.e
    c.requires.1.0
    (sym c.edge_is_ref.ensures ∙ c.if-edge_is_ref.false)
    c.edge_end.ensures
