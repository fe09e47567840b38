-- `shared::shared_suffix` meets its contract.
use mathlib.Core.Path.{subst}
use native.Mathlib.Omega.{arith}
use Rattle.shared.specs.Shared.{Suffix}
use Rattle.shared.proofs.SharedLoops.{last-no, suffix-end}
use Rattle.shared.proofs.shared_suffix.Goals as goal

pub returns : goal.returns
returns c =
    subst
    (Suffix c.args.vs.now c.args.p.now c.args.nodes.now c.args.skip c.args.c) (omega arith)
    (suffix-end c.requires.parts _ c.requires.by_index 0 c.loop-i.invariant
    (omega (arith, c.requires.parts.some)) (λ h. absurd (omega arith)))

pub returns-then-not-has_last : goal.returns-then-not-has_last
returns-then-not-has_last c =
    suffix-end
    c.requires.parts _
    c.requires.by_index _
    c.loop-i.invariant
    (omega arith)
    (last-no c.requires.parts _ _ c.has_last.ensures c.if-not-has_last.true
    c.vertex_start-s.ensures c.vertex_len-l.ensures
    (omega (arith, c.vertex_start.ensures, c.vertex_len-len.ensures)))
