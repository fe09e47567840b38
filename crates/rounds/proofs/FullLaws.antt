-- The whole of simplification. Assumes nothing.
use mathlib.Core.Path.{◌≡◌, refl, sym, ◌∙◌, subst}
use mathlib.Core.List.{List, []}
use Prim.Native.Nat.{ℕ, ◌≤◌}
use native.Mathlib.Omega.{arith}
use lib.ListN.{length}
use Rattle.defs.specs.Zip as Z
use Rattle.defs.specs.Zip.{zip_linear_chains}
use Rattle.defs.specs.Simplify.{rounds_from, simplify_graph_full}
use Rattle.index.specs.Index.{Indexed, Indexable}
use Rattle.memory.specs.Memory.{signature_room, Ready, Scratch, Countable, Simplifiable}
use Rattle.memory.specs.declared.Held.{Held}
use Rattle.memory.specs.declared.Work.{Work}
use Rattle.memory.proofs.RoomLaws.{held-vertices, held-edges, held-ends, room-kept, holds_kept}
use Rattle.zip_linear_chains.specs.Zips as Y
use Rattle.zip_linear_chains.specs.Zips.{ZippedAll}
use Rattle.rounds.specs.Rounds.{SimplifiedTo, Whole, Full}
use Rattle.rounds.specs.declared.Simplified.{Simplified}

module _ {least : ℕ} {h : Held} {es vs p heads nexts nodes mp starts tried sig : List ℕ} (F :
    Simplifiable least h es vs p heads nexts nodes mp starts tried sig) where
  pub full-indexable : Indexable h.m h.n es heads nexts
  full-indexable = record {
    room = omega (arith, held-edges F.holds, F.room.es-room);
    heads-room = omega (arith, held-vertices F.holds);
    nexts-room = omega (arith, held-edges F.holds);
    small = omega (arith, held-edges F.holds, F.room.small);
    ends = held-ends F.holds;
  }

  module _ {heads₁ nexts₁ : List ℕ} (I : Indexed h.m h.n es heads₁ nexts₁) (lh : length heads₁ ≡ length heads) (ln : length nexts₁ ≡ length nexts) where
    pub full-zip-ready : Y.ReadyToZip record { held = h; rewrites = 0 } es vs p heads₁ nexts₁ nodes mp
    full-zip-ready = record {
      room = room-kept F.room refl refl refl lh ln refl refl;
      holds = holds_kept F.holds lh ln;
      indexed = I;
      countable = omega (arith, held-vertices F.holds, F.countable.small);
    }

    module _ {w : Work} {es₂ vs₂ p₂ heads₂ nexts₂ nodes₂ mp₂ : List ℕ} (Q :
        ZippedAll record { held = h; rewrites = 0 } es vs p w es₂ vs₂ p₂ heads₂ nexts₂ nodes₂ mp₂) (l₂ : length heads₂ ≡ length heads₁)
      where
        pub full-ready : Ready least w.held es₂ vs₂ p₂ heads₂ nexts₂ nodes₂ mp₂
        full-ready = record { least-is = F.least-is; room = Q.ready.room; holds = Q.ready.holds; indexed = Q.ready.indexed }

        pub full-countable : Countable 500 w.rewrites heads₂
        full-countable = record { small = rw (l₂ ∙ lh) (omega (arith, Q.less, held-vertices F.holds, F.countable.small)) }

        pub full-scratch : {starts₂ : List ℕ} → length starts₂ ≡ length starts → Scratch heads₂ starts₂ tried
        full-scratch l = record { starts-room = omega (arith, F.scratch.starts-room, l₂, lh, l); tried-room = rw (l₂ ∙ lh) F.scratch.tried-room }

        pub full-sig : length nexts₂ ≡ length nexts₁ → signature_room heads₂ nexts₂ ≤ length sig
        full-sig m₂ = rw (l₂ ∙ lh, m₂ ∙ ln) F.sig-room

        pub full-all : {r : Simplified} {es' vs' p' : List ℕ} → Whole least w es₂ vs₂ p₂ heads₂ nexts₂ r es' vs' p' → length nexts₂
            ≡ length nexts₁ → Full least h es vs p heads nexts r es' vs' p'
        unfolding simplify_graph_full
        full-all {r} {es'} {vs'} {p'} W m₂ = record {
          answers = subst (λ (x : Z.Work). SimplifiedTo (rounds_from least 100 0 [] x) r es' vs' p') Q.is W.answers;
          holds = holds_kept W.holds (sym (l₂ ∙ lh)) (sym (m₂ ∙ ln));
        }
