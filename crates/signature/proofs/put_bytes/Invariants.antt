-- What each turn of the loop keeps.
use Rattle.signature.proofs.SignLaws.{SequenceBytes}
use Rattle.signature.proofs.put_bytes.Given as goal

abbrev pub invariant-loop-byte : goal.invariant-loop-byte
invariant-loop-byte l = SequenceBytes l.initial.sig l.old l.initial.t l.seq l.sig l.t l.byte-index
