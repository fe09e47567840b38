-- `shared::shared_prefix` meets its contract.
use mathlib.Core.Path.{subst}
use native.Mathlib.Omega.{arith}
use Rattle.shared.specs.Shared.{Prefix}
use Rattle.shared.proofs.SharedLoops.{byte-no, prefix-end}
use Rattle.shared.proofs.shared_prefix.Goals as goal

pub returns : goal.returns
returns c =
    subst
    (Prefix c.args.vs.now c.args.p.now c.args.nodes.now c.args.c) (omega arith)
    (prefix-end c.requires 0 c.loop-i.invariant (omega (arith, c.requires.some)) (λ h. absurd (omega arith)))

pub returns-then-not-has_byte : goal.returns-then-not-has_byte
returns-then-not-has_byte c =
    prefix-end
    c.requires _
    c.loop-i.invariant
    (omega arith)
    (byte-no c.requires _ c.has_byte.ensures c.if-not-has_byte.true
    c.vertex_start-s.ensures c.vertex_len-l.ensures
    c.vertex_start-start.ensures)
