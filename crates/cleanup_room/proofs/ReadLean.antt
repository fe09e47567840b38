-- The graph of an accepted record can be cleaned in the room that its counts ask for. Assumes nothing.
use mathlib.Core.Path.{◌≡◌}
use mathlib.Core.List.{List}
use Prim.Native.Nat.{ℕ}
use native.Mathlib.Omega.{arith}
use Rattle.defs.specs.Record.{decode}
use Rattle.defs.specs.Refusals.{sequence_only, record_refusal}
use Rattle.record.proofs.Accepted.{sequence-kind}
use Rattle.sound.proofs.Accepted.{accepted-early, accepted-layout, accepted-good, read-bytes}
use Rattle.sound.proofs.Measured.{read-light, read-branching}
use Rattle.arrays.specs.Sized.{RoomToRewrite}
use Rattle.choice.specs.Choice.{Lean}

pub read-lean : {bs heads nexts : List ℕ} → record_refusal sequence_only bs ≡ 0 → RoomToRewrite bs heads nexts → Lean (decode bs) heads nexts
read-lean {bs} z Y =
    let formed = accepted-layout sequence_only bs z in
    let kind = sequence-kind bs (accepted-early sequence_only bs z) in
    record {
      good = accepted-good sequence_only bs z;
      light = read-light bs formed (Y.vertices formed kind) (Y.weight formed kind);
      narrow = omega (arith, read-branching bs formed, read-bytes bs formed, Y.edges formed kind);
    }
