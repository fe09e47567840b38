-- What each turn of the loop keeps.
use Rattle.convert.proofs.CopyLaws.{CopyingEdges}
use Rattle.convert.proofs.copy_edges.Given as goal

abbrev pub invariant-loop-i : goal.invariant-loop-i
invariant-loop-i l = CopyingEdges l.m l.es l.order l.initial.out l.out l.i
