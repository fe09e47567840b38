-- `copies::copy` meets its contract.
use Rattle.std.proofs.Common.{slice_set, slice_index_or}
use mathlib.Core.Path.{◌≡◌, ap, ◌∙◌}
use Prim.Native.Nat.{◌+◌}
use native.Mathlib.Omega.{arith}
use Rattle.std.proofs.Math.Seq.{paste}
use Rattle.std.proofs.lemmas.List.Edits.{paste_more}
use Rattle.copies.proofs.copy.Goals as goal

pub loop-i-preserved : goal.loop-i-preserved
loop-i-preserved g c =
    let d = c.args.dst.now in
    let s = c.args.src.now in
    let i = c.loop-i.i in
    let at : i ≡ 0 + i = omega arith in
    ap (λ l. slice_set l i c.index-src-i.result) c.loop-i.invariant
    ∙ ap (λ x. slice_set (paste d 0 s i) i x) c.index-src-i.is
    ∙ ap (λ k. slice_set (paste d 0 s i) k (slice_index_or s i c.index-src-i.result)) at
    ∙ paste_more d 0 s i c.index-src-i.result (omega (arith, c.requires, c.loop-i-test.true)) c.loop-i-test.true
