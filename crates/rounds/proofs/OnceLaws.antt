-- A round. Assumes nothing.
use mathlib.Core.Path.{◌≡◌, ap, ◌∙◌}
use mathlib.Core.List.{List, []}
use Prim.Native.Nat.{ℕ, ◌+◌, ◌<◌}
use native.Mathlib.Omega.{arith}
use lib.ListN.{length}
use Rattle.defs.specs.Zip as Z
use Rattle.defs.specs.Zip.{zip_linear_chains}
use Rattle.defs.specs.Rewrites.{try_merge_tails, try_merge_common_suffices}
use Rattle.defs.specs.Simplify.{diamond, tails, merge, transform_until_complete, split_until_complete, fuel_for, simplify_graph_once}
use Rattle.memory.specs.Memory.{vertex_room, Ready}
use Rattle.memory.specs.declared.Work.{Work}
use Rattle.memory.proofs.RoomLaws.{held-vertices}
use Rattle.until.specs.Until.{Completed}
use Rattle.splits.specs.Splits.{SplitAll}
use Rattle.zip_linear_chains.specs.Zips as Y
use Rattle.zip_linear_chains.specs.Zips.{ZippedAll}
use Rattle.rounds.specs.Rounds.{Once}

-- tails in split's state and back: the least suffix is not a split's concern
pub with-least : {least : ℕ} {h : Rattle.memory.specs.declared.Held.Held} {es vs p heads nexts nodes mp : List ℕ} → 3 < least
    → Ready 4 h es vs p heads nexts nodes mp → Ready least h es vs p heads nexts nodes mp
with-least l R = record { least-is = l; room = R.room; holds = R.holds; indexed = R.indexed }

pub any-least : {least : ℕ} {h : Rattle.memory.specs.declared.Held.Held} {es vs p heads nexts nodes mp : List ℕ}
    → Ready least h es vs p heads nexts nodes mp → Ready 4 h es vs p heads nexts nodes mp
any-least R = record { least-is = omega arith; room = R.room; holds = R.holds; indexed = R.indexed }

pub zip-ready : {least : ℕ} {w : Work} {es vs p heads nexts nodes mp : List ℕ} → Ready least w.held es vs p heads nexts nodes mp
    → w.rewrites + vertex_room heads < 4294967296 → Y.ReadyToZip w es vs p heads nexts nodes mp
zip-ready R c = record { room = R.room; holds = R.holds; indexed = R.indexed; countable = omega (arith, c, held-vertices R.holds) }

pub once : {least : ℕ} {w a b c d r : Work} {es vs p es₁ vs₁ p₁ h₁ n₁ o₁ m₁ es₂ vs₂ p₂ h₂ n₂ o₂ m₂ es₃ vs₃ h₃ n₃ o₃ m₃ es₄ vs₄ p₄ h₄ n₄ o₄
    m₄ es₅ vs₅ p₅ h₅ n₅ o₅ m₅ : List ℕ}
    → Completed diamond least w es vs p a es₁ vs₁ p₁ h₁ n₁ o₁ m₁ → Completed tails least a es₁ vs₁ p₁ b es₂ vs₂ p₂ h₂ n₂ o₂ m₂
    → SplitAll b es₂ vs₂ p₂ c es₃ vs₃ h₃ n₃ o₃ m₃
    → Completed merge least c es₃ vs₃ p₂ d es₄ vs₄ p₄ h₄ n₄ o₄ m₄ → ZippedAll d es₄ vs₄ p₄ r es₅ vs₅ p₅ h₅ n₅ o₅ m₅
    → length h₂ ≡ length h₁ → length h₃ ≡ length h₁ → length h₄ ≡ length h₁ → length h₅ ≡ length h₁ → Once least w es vs p r es₅ vs₅ p₅ h₅ n₅ o₅ m₅
unfolding simplify_graph_once
once {least} {w} {a} {b} {c} {d} {r} {es} {vs} {p} {es₁} {vs₁} {p₁} {h₁} {n₁} {o₁} {m₁} {es₂} {vs₂} {p₂} {h₂} {n₂} {o₂} {m₂} {es₃} {vs₃}
    {h₃} {n₃} {o₃} {m₃} {es₄} {vs₄} {p₄} {h₄} A B C D E l₂ l₃ l₄ l₅ = record {
      ready = record { least-is = A.ready.least-is; room = E.ready.room; holds = E.ready.holds; indexed = E.ready.indexed };
      is = E.is ∙ ap zip_linear_chains (D.is
          ∙ ap (λ (x : Z.Work). transform_until_complete try_merge_common_suffices (fuel_for x.graph) x) (C.is
          ∙ ap (λ (x : Z.Work). split_until_complete (fuel_for x.graph) [] x)
          (B.is
          ∙ ap (λ (x : Z.Work). transform_until_complete (try_merge_tails least) (fuel_for x.graph) x)
          A.is)));
      most = omega (arith, E.less, D.most, C.most, B.most, A.most, held-vertices D.ready.holds, l₂, l₃, l₄, l₅);
    }
