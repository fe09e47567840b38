-- `paths::path_nodes` meets its contract.
use native.Mathlib.Omega.{arith}
use lib.ListN.{length-set}
use Rattle.paths.proofs.StepLaws.{first-two}
use Rattle.paths.proofs.NodeLaws.{noting-start, noting-room, noting-more, noting-end}
use Rattle.paths.proofs.path_nodes.Goals as goal

pub loop-rest-init : goal.loop-rest-init
loop-rest-init c = noting-start c.args.nodes.now (omega (arith, c.requires))

pub bounds-nodes-c : goal.bounds-nodes-c
bounds-nodes-c c =
    noting-room
    c.loop-rest.invariant
    (omega (arith, c.requires, length-set c.args.nodes.now 0 c.args.start))
    (first-two c.loop-rest.rest.now c.in-len2-up.len_at_least)

pub loop-rest-preserved : goal.loop-rest-preserved
loop-rest-preserved c =
    noting-more
    c.loop-rest.invariant
    (omega (arith, c.requires, length-set c.args.nodes.now 0 c.args.start))
    (first-two c.loop-rest.rest.now c.in-len2-up.len_at_least)

pub returns : goal.returns
returns c =
    noting-end
    c.loop-rest.invariant
    (omega (arith, c.requires, length-set c.args.nodes.now 0 c.args.start))
    c.in_default.len_below
