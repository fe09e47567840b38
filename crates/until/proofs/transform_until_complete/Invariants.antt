-- What each turn of the loop keeps.
use Rattle.memory.specs.Memory.{graph_of}
use Rattle.until.proofs.UntilLaws.{measure_of, Transforming}
use Rattle.until.proofs.transform_until_complete.Given as goal

abbrev pub invariant-loop-held : goal.invariant-loop-held
invariant-loop-held g l =
    Transforming g.T.Transform.kind l.least l.initial.w l.initial.es l.initial.vs l.initial.p l.initial.heads l.w l.es l.vs l.p l.heads l.nexts l.nodes l.map

abbrev pub decreases-loop-held : goal.decreases-loop-held
decreases-loop-held g l = measure_of g.T.Transform.kind (graph_of l.w.held l.es l.vs l.p)
