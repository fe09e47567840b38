-- `paths::path_bases_bytes` meets its contract.
use Rattle.paths.proofs.RouteLaws.{route-listed}
use Rattle.paths.proofs.BytesLaws.{no-path, path_room, path-route, path-told}
use Rattle.paths.proofs.path_bases_bytes.Goals as goal

pub returns-then-not-is_edge_path : goal.returns-then-not-is_edge_path
returns-then-not-is_edge_path c = no-path c.requires.0 c.is_edge_path.ensures _ c.if-not-is_edge_path.true

pub path_nodes-c-requires : goal.path_nodes-c-requires
path_nodes-c-requires c =
    path_room c.requires.0 c.is_edge_path.ensures c.if-not-is_edge_path.false

pub spell-requires : goal.spell-requires
spell-requires c =
    route-listed
    c.requires.0
    (path-route c.requires.0 c.is_edge_path.ensures c.if-not-is_edge_path.false
    c.path_nodes-c.ensures)

pub returns : goal.returns
returns c =
    path-told
    c.requires.0
    c.is_edge_path.ensures
    c.if-not-is_edge_path.false
    c.path_nodes-c.ensures
    c.spell.ensures
