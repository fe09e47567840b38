-- Cleanup in slices. Assumes nothing.
use mathlib.Core.Path.{◌≡◌, refl, sym, ap, ◌∙◌, subst}
use mathlib.Core.Bool.{true, false}
use mathlib.Core.Option.{Option, none, some}
use mathlib.Core.List.Memᴰ
use mathlib.Core.List.{List, [], ◌∷◌}
use Prim.Native.Nat.{ℕ, suc, ◌+◌, ◌≤◌, ◌<◌}
use native.Mathlib.Omega.{arith}
use lib.ListN.{length}
use Rattle.defs.specs.SeqGraph.{Graph, node_count}
use Rattle.defs.specs.Zip as Z
use Rattle.defs.specs.Simplify.{sequence_bytes, empty_vertices, simplify_graph_full, min_tail_suffix_len}
use Rattle.defs.specs.Cleanup.{reference_source_vertex, reference_sink_vertex, remove_paths_not_connected_to_ref, with_dummy_vertex}
use Rattle.defs.specs.Cleanup.{after_choice, cleanup_seq_graph}
use Rattle.laws.proofs.Fuel.{Good}
use Rattle.laws.proofs.Whole.{by_list}
use Rattle.laws.proofs.Measures.{weight, load}
use Rattle.laws.proofs.Cleaned.{sink-nil, sink-one, sink-more}
use Rattle.laws.proofs.Room.{with_sink-fits}
use Rattle.index.specs.Index.{Indexable}
use Rattle.memory.specs.Memory.{graph_of, work_of, Fit, Holds, Countable}
use Rattle.memory.specs.declared.Held.{Held}
use Rattle.memory.specs.declared.Work.{Work}
use Rattle.memory.proofs.RoomLaws.{held-vertices, held-edges, held-ends, holds_kept}
use Rattle.refs.specs.Refs.{FirstSource, FirstSink}
use Rattle.std.specs.Prelude as prelude
use Rattle.std.specs.Prelude.{Some, None}
use Rattle.refs.proofs.RefLaws.{source-found, source-missing, sink-found, sink-missing}
use Rattle.rounds.specs.Rounds.{Full}
use Rattle.rounds.specs.declared.Simplified.{Simplified}
use Rattle.orphans.specs.Orphans.{Reduced}
use Rattle.dummy_vertex.specs.Dummy.{DummyAdded}
use Rattle.choice.specs.Choice.{Lean, HoldsLean, Cleanable, BeforeChoice}
use Rattle.choice.proofs.LeanLaws.{lean-fit, lean-kept, lean-between, lean-rewrites}
use Rattle.choice.proofs.ChoiceLaws.{lean-holds, holds-lean-kept, reduced-lean, full-lean}
use Rattle.cleanup_steps.specs.CleanUp.{uncleaned, CleanedTo, After, CleanUp}
use Rattle.cleanup_steps.specs.declared.CleanedUp.{CleanedUp}
use Rattle.cleanup_steps.specs.declared.SeqGraphCleanupStatus.TheVariants.{AssembledSomeVariation}

-- ---- the empty second vertex has room

abbrev alone : ℕ → List ℕ → Graph
alone k v = record { k = k; verts = v ∷ []; edges = [] }

abbrev pair : ℕ → List ℕ → Graph
pair k v = record { k = k; verts = v ∷ [] ∷ []; edges = record { from = 0; to = 1; support = 0; is_ref = true; capped = false } ∷ [] }

pair-good : (k : ℕ) (v : List ℕ) → Good (pair k v)
unfolding node_count
pair-good k v = rw (sink-one (alone k v) v refl) at (with_sink-fits {n = 2} {e = 1} (omega arith) (omega arith) (alone k v) record {
  vertices = omega arith;
  edges = omega arith;
  single = (record { bounded = λ e m. absurd (Memᴰ.not-nil m); rank = λ u. u; ranks = λ a b l. absurd (Memᴰ.not-nil l.1) }, tt);
}).single

heavier : (v : List ℕ) → sequence_bytes (v ∷ [] ∷ []) + empty_vertices (v ∷ [] ∷ []) ≡ suc (sequence_bytes (v ∷ []) + empty_vertices (v ∷ []))
unfolding sequence_bytes empty_vertices
heavier [] = refl
heavier (x ∷ xs) = omega arith

same_bytes : (v : List ℕ) → sequence_bytes (v ∷ [] ∷ []) ≡ sequence_bytes (v ∷ [])
unfolding sequence_bytes
same_bytes v = refl

pair-fit : {heads nexts : List ℕ} (g : Graph) (v : List ℕ) → g.verts ≡ v ∷ [] → Lean g heads nexts → Fit (pair g.k v) heads nexts
unfolding weight load node_count
pair-fit {heads} {nexts} g v is L = record {
  good = pair-good g.k v;
  light = omega (arith, L.light, heavier v, ap sequence_bytes is, ap empty_vertices is);
  surplus = omega (arith, L.narrow, same_bytes v, ap sequence_bytes is);
}

dummy-fit : {heads nexts : List ℕ} (g : Graph) → Lean g heads nexts → Fit (with_dummy_vertex g) heads nexts
dummy-fit g L = by_list g.verts
    (λ t. rw (sink-nil g t) (lean-fit L))
    (λ v vs t. by_list vs
    (λ u. let i = t ∙ ap (λ (l : List (List ℕ)). v ∷ l) u in rw (sink-one g v i) (pair-fit g v i L))
    (λ w ws u. rw (sink-more g v w ws (t ∙ ap (λ (l : List (List ℕ)). v ∷ l) u)) (lean-fit L)))

pub dummy-holds : {h r : Held} {es vs p heads nexts es' vs' : List ℕ} → HoldsLean h es vs p heads nexts → DummyAdded h es vs r es' vs'
    → Holds r es' vs' p heads nexts
dummy-holds {h} {r} {es} {vs} {p} H D = record {
  fit = rw (D.is p) (dummy-fit (graph_of h es vs p) H.lean);
  within = rw D.used-is (D.within h.used H.within);
  used-room = omega (arith, D.used-is, H.used-room);
}

pub dummy-room : {h : Held} {es vs p heads nexts nodes mp starts tried sig : List ℕ} (es' vs' : List ℕ)
    → Cleanable h es vs p heads nexts nodes mp starts tried sig → length es' ≡ length es → length vs' ≡ length vs → (4 ≤ length es')
    × (4 ≤ length vs')
dummy-room es' vs' C a b = (
  omega (arith, C.holds.lean.light, C.room.vertices-edges, C.room.es-room),
  omega (arith, C.holds.lean.light, C.room.vs-room),
)

-- ---- what lies between

module _ (w : Work) (s t : ℕ) {es vs p heads nexts : List ℕ} (H : HoldsLean w.held es vs p heads nexts)
    {b : Held} {es₁ vs₁ : List ℕ} (R : Reduced (λ (g : Graph). remove_paths_not_connected_to_ref g s t) w.held es vs b es₁ vs₁) where
  pub between-lean : HoldsLean b es₁ vs₁ p heads nexts
  between-lean = reduced-lean R H (lean-between H.lean s t)

  module _ {heads₁ nexts₁ : List ℕ} {z : Simplified} {es₂ vs₂ p₂ : List ℕ} (F : Full min_tail_suffix_len b es₁ vs₁ p heads₁ nexts₁ z es₂ vs₂ p₂) where
    pub between-counted : Countable 202 w.rewrites heads → w.rewrites + z.rewrites < 4294967296
    between-counted K = omega (arith, K.small, F.answers.rewrites, lean-rewrites between-lean.lean)

    module _ {d : Held} {es₃ vs₃ : List ℕ} (D : DummyAdded z.held es₂ vs₂ d es₃ vs₃) where
      between-answers : CleanedTo (after_choice (work_of w es vs p) (some s) (some t)) record {
        held = d;
        status = AssembledSomeVariation;
        rewrites = w.rewrites
            + z.rewrites;
      } es₃ vs₃ p₂
      unfolding after_choice
      between-answers = record {
        graph = D.is p₂ ∙ ap with_dummy_vertex (F.answers.graph ∙ ap (λ (x : Graph). (simplify_graph_full min_tail_suffix_len x).graph) (R.is p));
        status = refl;
        rewrites = ap (λ (x : ℕ). w.rewrites + x) (F.answers.rewrites ∙ ap (λ (x : Graph). (simplify_graph_full min_tail_suffix_len x).rewrites) (R.is p));
      }

      pub between-after : {r : CleanedUp} → r ≡ record { held = d; status = AssembledSomeVariation; rewrites = w.rewrites + z.rewrites } → length heads₁
          ≡ length heads → length nexts₁ ≡ length nexts
          → After w (some s) (some t) es vs p heads nexts r es₃ vs₃ p₂
      between-after q ld le = rw q record {
        answers = between-answers;
        holds = dummy-holds (holds-lean-kept (full-lean F (lean-kept between-lean.lean ld le)) (sym ld) (sym le)) D;
      }

-- ---- the choice

module _ (w : Work) {es vs p heads nexts : List ℕ} (H : HoldsLean w.held es vs p heads nexts) where
  plain-after : (a b : Option ℕ) → after_choice (work_of w es vs p) a b ≡ after_choice (work_of w es vs p) none b
      → After w a b es vs p heads nexts (uncleaned w) es vs p
  unfolding after_choice
  plain-after a b q = record {
    answers = rw q record { graph = refl; status = refl; rewrites = refl };
    holds = lean-holds H;
  }

  pub after-no-source : {a : prelude.Option ℕ} {r : CleanedUp} → FirstSource w.held.m w.held.n es a → a ≡ None → r ≡ uncleaned w
      → After w (reference_source_vertex (graph_of w.held es vs p)) (reference_sink_vertex (graph_of w.held es vs p)) es vs p heads nexts r es vs p
  after-no-source F l q = rw (q, source-missing F l w.held.k.0 vs p) (plain-after none _ refl)

  pub after-no-sink : {a b : prelude.Option ℕ} {s : ℕ} {r : CleanedUp} → FirstSource w.held.m w.held.n es a → a ≡ Some s
      → FirstSink w.held.m w.held.n es b → b ≡ None → r ≡ uncleaned w
      → After w (reference_source_vertex (graph_of w.held es vs p)) (reference_sink_vertex (graph_of w.held es vs p)) es vs p heads nexts r es vs p
  unfolding after_choice
  after-no-sink {s = s} F k T l q = rw (q, source-found F k w.held.k.0 vs p, sink-missing T l w.held.k.0 vs p) (plain-after (some s) none refl)

pub after-chosen : {w : Work} {es vs p heads nexts : List ℕ} {a b : prelude.Option ℕ} {s t : ℕ} {r : CleanedUp} {es' vs' p' : List ℕ}
    → FirstSource w.held.m w.held.n es a → a ≡ Some s → FirstSink w.held.m w.held.n es b → b ≡ Some t
    → After w (some s) (some t) es vs p heads nexts r es' vs' p'
    → After w (reference_source_vertex (graph_of w.held es vs p)) (reference_sink_vertex (graph_of w.held es vs p)) es vs p heads nexts r es' vs' p'
after-chosen {w} {es} {vs} {p} F k T l A = rw (source-found F k w.held.k.0 vs p, sink-found T l w.held.k.0 vs p) A

-- ---- the whole

module _ {h : Held} {es vs p heads nexts nodes mp starts tried sig : List ℕ} (C : Cleanable h es vs p heads nexts nodes mp starts tried sig)
    {w : Work} {es₁ vs₁ p₁ : List ℕ} (B : BeforeChoice h es vs p heads nexts w es₁ vs₁ p₁) where
  pub choice-countable : {heads₁ : List ℕ} → length heads₁ ≡ length heads → Countable 202 w.rewrites heads₁
  choice-countable d = record { small = rw d (omega (arith, B.most, C.countable.small)) }

  pub choice-indexable : {heads₁ nexts₁ : List ℕ} → length es₁ ≡ length es → length heads₁ ≡ length heads → length nexts₁ ≡ length nexts
      → Indexable w.held.m w.held.n es₁ heads₁ nexts₁
  choice-indexable a d e = let H = lean-holds B.holds in record {
    room = omega (arith, held-edges H, C.room.es-room);
    heads-room = omega (arith, held-vertices H);
    nexts-room = omega (arith, held-edges H);
    small = omega (arith, held-edges H, C.room.small);
    ends = held-ends H;
  }

pub cleaned-up : {h : Held} {es vs p heads nexts : List ℕ} {w : Work} {es₁ vs₁ p₁ : List ℕ} → BeforeChoice h es vs p heads nexts w es₁ vs₁ p₁
    → {heads₁ nexts₁ : List ℕ} {r : CleanedUp} {es' vs' p' : List ℕ}
    → After w (reference_source_vertex (graph_of w.held es₁ vs₁ p₁)) (reference_sink_vertex (graph_of w.held es₁ vs₁ p₁)) es₁ vs₁ p₁ heads₁ nexts₁ r es' vs' p'
    → length heads₁ ≡ length heads → length nexts₁ ≡ length nexts → CleanUp h es vs p heads nexts r es' vs' p'
unfolding cleanup_seq_graph
cleaned-up B {r = r} {es'} {vs'} {p'} A ld le = record {
  answers = subst (λ (x : Z.Work). CleanedTo (after_choice x (reference_source_vertex x.graph) (reference_sink_vertex x.graph)) r es' vs' p')
      B.is A.answers;
  holds = holds_kept A.holds (sym ld) (sym le);
}
