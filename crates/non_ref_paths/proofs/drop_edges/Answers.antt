-- `non_ref_paths::drop_edges` meets its contract.
use native.Mathlib.Omega.{arith}
use Rattle.reach.proofs.Directions.{number-is}
use Rattle.non_ref_paths.proofs.CleanNonRefLaws.{dropped, kept-indexable}
use Rattle.non_ref_paths.proofs.drop_edges.Goals as goal

pub mark_reached-requires : goal.mark_reached-requires
mark_reached-requires c =
    (c.requires.0, (c.requires.1.1.1.0, c.requires.1.1.1.1))

pub keep_edges-left-requires : goal.keep_edges-left-requires
keep_edges-left-requires c = rw (number-is c.args.direction) (
  c.requires.1.1.1.0.room,
  (
    c.requires.1.0,
    (
      c.requires.1.1.1.0.ends,
      omega (arith, c.requires.1.1.1.1.marks-room, c.mark_reached.auto.marks),
    ),
  ),
)

pub build_index-requires : goal.build_index-requires
build_index-requires c =
    kept-indexable
    c.requires.1.1.1.0
    c.requires.1.1.0
    c.keep_edges-left.ensures
    c.keep_edges-left.auto.es

pub returns : goal.returns
returns c = (
  dropped c.requires.1.1.1.0.ends (rw (number-is c.args.direction) at c.mark_reached.ensures)
      (rw (number-is c.args.direction) at c.keep_edges-left.ensures),
  c.build_index.ensures,
)
