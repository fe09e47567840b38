-- `split_suffix::try_split_common_suffix` meets its contract.
use Rattle.split_suffix.proofs.SplitLaws.{split-testable, left_not, split-ending, split-edges-ready, split-verts-ready, split-compactable, split_below, left-done}
use Rattle.split_suffix.proofs.try_split_common_suffix.Goals as goal

pub safe_to_split-requires : goal.safe_to_split-requires
safe_to_split-requires c =
    split-testable
    c.requires.0
    c.requires.1.0
    c.requires.1.1.0
    c.collect-c.ensures
    c.collect-c.auto.out

pub returns-in_err-s : goal.returns-in_err-s
returns-in_err-s c = rw c.from_residual.ensures
    (left_not
    c.requires.0
    c.requires.1.0
    c.requires.1.1.0
    c.collect-c.ensures
    c.collect-c.auto.out
    c.safe_to_split.ensures
    c.in_err-s.was)

pub suffix_start-from-requires : goal.suffix_start-from-requires
suffix_start-from-requires c =
    split-ending
    c.requires.0
    c.requires.1.0
    c.requires.1.1.0
    c.collect-c.ensures
    c.collect-c.auto.out
    c.safe_to_split.ensures
    c.in_ok-s.was

pub add_edges-k-requires : goal.add_edges-k-requires
add_edges-k-requires c =
    split-edges-ready
    c.requires.0
    c.requires.1.0
    c.requires.1.1.0
    c.collect-c.ensures
    c.collect-c.auto.out
    c.safe_to_split.ensures
    c.in_ok-s.was
    c.requires.1.1.1

pub add_vertices-j-requires : goal.add_vertices-j-requires
add_vertices-j-requires c =
    split-verts-ready
    c.requires.0
    c.requires.1.0
    c.requires.1.1.0
    c.collect-c.ensures
    c.collect-c.auto.out
    c.safe_to_split.ensures
    c.in_ok-s.was

pub remove_vertices_by_id-left-requires : goal.remove_vertices_by_id-left-requires
remove_vertices_by_id-left-requires c = (
  split-compactable c.requires.0 c.requires.1.0 c.requires.1.1.0 c.collect-c.ensures
      c.collect-c.auto.out c.safe_to_split.ensures c.in_ok-s.was
      c.add_edges-k.ensures c.add_vertices-j.ensures c.suffix_start-from.ensures
      c.add_edges-k.auto.es c.add_vertices-j.auto.vs
      c.add_edges-k.auto.map,
  split_below c.requires.0 c.requires.1.0 c.requires.1.1.0 c.collect-c.ensures
      c.collect-c.auto.out c.safe_to_split.ensures c.in_ok-s.was
      c.add_edges-k.ensures c.add_vertices-j.ensures c.suffix_start-from.ensures,
)

pub returns : goal.returns
returns c =
    left-done
    c.requires.0
    c.requires.1.0
    c.requires.1.1.0
    c.collect-c.ensures
    c.collect-c.auto.out
    c.safe_to_split.ensures
    c.in_ok-s.was
    c.add_edges-k.ensures
    c.add_vertices-j.ensures
    c.suffix_start-from.ensures
    c.remove_vertices_by_id-left.ensures
