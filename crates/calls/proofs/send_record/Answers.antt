-- `calls::send_record` meets its contract.
use native.Mathlib.Omega.{arith}
use Rattle.calls.proofs.SendLaws.{send-short, send-writable, send-written, send-small}
use borrow.Author.Rules.{rules}
use Rattle.calls.proofs.send_record.Goals as goal

pub returns-then-out-length : goal.returns-then-out-length
returns-then-out-length c =
    send-short c.requires _ c.record_length-length.ensures c.if-out-length.true c.from.ensures

pub write_record-written-requires : goal.write_record-written-requires
write_record-written-requires c =
    send-writable c.requires _ c.record_length-length.ensures c.if-out-length.false

pub overflow_cast-result : goal.overflow_cast-result
overflow_cast-result c =
    omega (
      arith,
      send-small c.requires _ c.record_length-length.ensures c.write_record-written.ensures,
    )

pub returns : goal.returns
returns c =
    send-written
    c.requires _
    c.record_length-length.ensures
    c.if-out-length.false
    c.write_record-written.ensures
