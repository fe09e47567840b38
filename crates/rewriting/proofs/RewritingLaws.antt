-- What is held of a record, and what becomes of it. Assumes nothing.
use mathlib.Core.Path.{◌≡◌, refl, sym, ap, ◌∙◌, subst}
use mathlib.Core.List.{List}
use Prim.Native.Nat.{ℕ}
use native.Mathlib.Omega.{arith}
use lib.ListN.{length}
use Rattle.defs.specs.Simplify.{min_tail_suffix_len}
use Rattle.defs.specs.Cleanup.{status_number}
use Rattle.defs.specs.Record.{kind_of, decode}
use Rattle.defs.specs.Refusals.{sequence_only}
use Rattle.record.specs.Layout.{WellFormed}
use Rattle.record.proofs.Accepted.{sequence-kind}
use Rattle.memory.specs.Memory.{graph_of}
use Rattle.memory.specs.declared.Held.{Held}
use Rattle.memory.proofs.RoomLaws.{room-kept}
use Rattle.load.specs.Loaded.{Poolable, SequencesPooled}
use Rattle.load.proofs.LoadLaws.{formed-laid, pooled-graph}
use Rattle.sound.proofs.Accepted.{accepted-early, accepted-layout}
use Rattle.accept.specs.Accept.{ReadAs}
use Rattle.std.specs.Prelude.{Ok, Err}
use Rattle.std.specs.Prelude as std
use Rattle.refusal.specs.declared.Refusal.{Refusal}
use Rattle.refusal.proofs.RefusalLaws.{refused-number, made-number}
use Rattle.accept.proofs.AcceptLaws.{read_none}
use Rattle.choice.specs.Choice.{HoldsLean, Cleanable}
use Rattle.choice.proofs.LeanLaws.{lean-as}
use Rattle.choice.proofs.ChoiceLaws.{holds-lean-kept}
use Rattle.cleanup_room.proofs.ReadLean.{read-lean}
use Rattle.rounds.specs.Rounds.{Full}
use Rattle.rounds.specs.declared.Simplified.{Simplified}
use Rattle.cleanup_steps.specs.CleanUp.{cleanup_status_of, CleanUp}
use Rattle.cleanup_steps.specs.declared.CleanedUp.{CleanedUp}
use Rattle.arrays.specs.Sized.{LentGraph, Lent}
use Rattle.rewriting.specs.Rewriting.{HeldAs, result_of, GraphRewritten}
use Rattle.rewriting.specs.declared.Rewritten.{Rewritten}
use Rattle.rewriting.specs.declared.RewritingCall.{RewritingCall}
use Rattle.rewriting.specs.declared.RewritingCall.TheVariants.{SimplifyGraph, CleanupSeqGraph}

-- the two rewritings
module _ {h : Held} {es vs p heads nexts es' vs' p' : List ℕ} where
  pub simplified-as : {s : Simplified} → Full min_tail_suffix_len h es vs p heads nexts s es' vs' p'
      → GraphRewritten SimplifyGraph h es vs p heads nexts record {
        held = s.held;
        status = 0;
        rewrites = s.rewrites;
        rounds = s.rounds;
        end = s.end;
      } es' vs' p'
  unfolding result_of
  simplified-as {s} F = let A = F.answers in record {
    is = λ i. record { graph = A.graph i; status = 0; rewrites = A.rewrites i; rounds = A.rounds i; end = A.end i };
    holds = F.holds;
  }

  pub cleaned-as : {c : CleanedUp} {n : ℕ} → n ≡ status_number (cleanup_status_of c.status) → CleanUp h es vs p heads nexts c es' vs' p'
      → GraphRewritten CleanupSeqGraph h es vs p heads nexts record {
        held = c.held;
        status = n;
        rewrites = c.rewrites;
        rounds = 0;
        end = 0;
      } es' vs' p'
  unfolding result_of
  cleaned-as {c} q F = let A = F.answers in record {
    is = λ i. record { graph = A.graph i; status = (q ∙ ap status_number A.status) i; rewrites = A.rewrites i; rounds = 0; end = 0 };
    holds = F.holds;
  }

-- of the call that was asked for
pub is-rewritten : {call which : RewritingCall} {h : Held} {es vs p heads nexts : List ℕ} {r : Rewritten} {es' vs' p' : List ℕ} → call ≡ which
    → GraphRewritten which h es vs p heads nexts r es' vs' p' → GraphRewritten call h es vs p heads nexts r es' vs' p'
is-rewritten {h = h} {es} {vs} {p} {heads} {nexts} {r} {es'} {vs'} {p'} w G =
    subst (λ (y : RewritingCall). GraphRewritten y h es vs p heads nexts r es' vs' p') (sym w) G

-- what was read, its sequences in the pool, is held
module _ {bs : List ℕ} {x : std.Result Held Refusal} {es vs : List ℕ} (A : ReadAs bs x es vs) {heads nexts : List ℕ} where
  pub held-refused : {n : Refusal} → x ≡ Err n → {p : List ℕ} → HeldAs bs heads nexts (Err n) es vs p
  held-refused {n} f = record {
    number = sym (refused-number f) ∙ A.number;
    is = λ h q. cc;
    holds = λ h q. cc;
  }

  module _ {h : Held} (ok : x ≡ Ok h) {es₀ vs₀ p nodes mp : List ℕ} (Z : LentGraph bs es₀ vs₀ p heads nexts nodes mp) where
    formed : WellFormed bs
    formed = accepted-layout sequence_only bs (read_none A ok)

    kind : kind_of bs ≡ 1
    kind = sequence-kind bs (accepted-early sequence_only bs (read_none A ok))

    pub lent-poolable : length vs ≡ length vs₀ → Poolable bs h vs p
    lent-poolable l = record {
      laid = formed-laid formed;
      n = (A.loaded h ok).n;
      m = (A.loaded h ok).m;
      vs-room = omega (arith, l, (Z.reading.room formed).vs-room);
      p-room = omega (arith, Z.room.p-room, Z.roomy.weight formed kind);
    }

    pub held-pooled : {r : Held} {vs' p' heads' nexts' : List ℕ} → SequencesPooled bs h r vs' p' → length heads' ≡ length heads → length nexts' ≡ length nexts
        → HeldAs bs heads' nexts' (Ok r) es vs' p'
    held-pooled {r} {vs'} {p'} {heads'} {nexts'} P d f =
        let e : graph_of r es vs' p' ≡ decode bs = pooled-graph (A.loaded h ok) P in
        let held : HoldsLean r es vs' p' heads nexts = record {
          lean = lean-as e (read-lean (read_none A ok) Z.roomy);
          within = P.within;
          used-room = omega (arith, P.used, Z.roomy.weight formed kind);
        } in
        record {
          number = sym (made-number ok) ∙ A.number;
          is = λ g q. let same : r ≡ g = cc in subst (λ (y : Held). graph_of y es vs' p' ≡ decode bs) same e;
          holds = λ g q. let same : r ≡ g = cc in subst (λ (y : Held). HoldsLean y es vs' p' heads' nexts') same (holds-lean-kept held d f);
        }

-- what is lent is room enough to rewrite what is held, when it was written to
pub lent-cleanable : {bs es vs p heads nexts nodes mp starts tried sig es' vs' p' heads' nexts' nodes' mp' : List ℕ}
    → Lent bs es vs p heads nexts nodes mp starts tried sig → length es' ≡ length es → length vs' ≡ length vs → length p' ≡ length p
    → length heads' ≡ length heads → length nexts' ≡ length nexts → length nodes' ≡ length nodes → length mp' ≡ length mp
    → {h : Held} → HoldsLean h es' vs' p' heads' nexts' → Cleanable h es' vs' p' heads' nexts' nodes' mp' starts tried sig
lent-cleanable Z a b c d e f g H = record {
  room = room-kept Z.graph.room a b c d e f g;
  holds = H;
  scratch = record { starts-room = rw d Z.scratch.starts-room; tried-room = rw d Z.scratch.tried-room };
  sig-room = rw (d, e) Z.sig-room;
  countable = record { small = omega (arith, d, Z.graph.fits.vertices-most) };
}
