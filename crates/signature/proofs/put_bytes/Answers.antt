-- `signature::put_bytes` meets its contract.
use native.Mathlib.Omega.{arith}
use Rattle.signature.proofs.SignLaws.{bytes-more}
use Rattle.signature.proofs.put_bytes.Goals as goal

pub loop-byte-preserved : goal.loop-byte-preserved
loop-byte-preserved c =
    bytes-more c.loop-byte.invariant (omega arith) c.put-t.ensures c.put-t.auto.sig
