-- `split_and_update::split_and_update` meets its contract.
use Rattle.split_and_update.proofs.SplitLaws.{vertable, placeable, edgeable, compactable, split_done}
use Rattle.split_and_update.proofs.split_and_update.Goals as goal

pub add_vertices-a-requires : goal.add_vertices-a-requires
add_vertices-a-requires c = vertable c.requires

pub new_places-w-requires : goal.new_places-w-requires
new_places-w-requires c =
    placeable c.requires c.add_vertices-a.ensures

pub add_edges-m-requires : goal.add_edges-m-requires
add_edges-m-requires c =
    edgeable c.requires c.add_vertices-a.ensures _ c.new_places-w.ensures

pub remove_vertices_by_id-left-requires : goal.remove_vertices_by_id-left-requires
remove_vertices_by_id-left-requires c =
    compactable
    c.requires
    c.add_vertices-a.ensures _
    c.new_places-w.ensures
    c.add_edges-m.ensures

pub returns : goal.returns
returns c =
    split_done
    c.requires
    c.add_vertices-a.ensures _
    c.new_places-w.ensures
    c.add_edges-m.ensures
    c.remove_vertices_by_id-left.ensures
