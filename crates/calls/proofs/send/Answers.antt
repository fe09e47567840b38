-- `calls::send` meets its contract.
use Rattle.calls.proofs.SendLaws.{sends-refused, sends-graph}
use mathlib.Core.Path.{refl}
use Rattle.calls.proofs.send.Goals as goal

pub returns-in-Err : goal.returns-in-Err
returns-in-Err c =
    sends-refused c.in-Err.is refl

pub send_record-requires : goal.send_record-requires
send_record-requires c =
    c.requires.sendable _ c.in-Ok.is

pub returns-in-Ok : goal.returns-in-Ok
returns-in-Ok c =
    sends-graph c.in-Ok.is c.send_record.ensures
