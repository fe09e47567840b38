-- What each turn of the loop keeps.
use Rattle.memory.specs.Memory.{graph_of}
use Rattle.until.specs.Until.{rewrite_of}
use Rattle.until.proofs.UntilLaws.{ScanningVertices}
use Rattle.until.proofs.first_at.Given as goal

abbrev pub invariant-loop-v : goal.invariant-loop-v
invariant-loop-v g l =
    ScanningVertices (rewrite_of g.T.Transform.kind l.least (graph_of l.held l.initial.es l.initial.vs l.initial.p)) l.held.n
    l.initial.es l.initial.vs l.initial.p l.initial.nodes l.initial.map l.es l.vs l.p l.nodes l.map l.v
