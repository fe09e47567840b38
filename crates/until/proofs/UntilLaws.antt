-- The loops of a stage. Assumes nothing.
use mathlib.Core.Path.{◌≡◌, refl, sym, ap, ◌∙◌, subst}
use mathlib.Core.Option.{Option, none, some}
use mathlib.Core.List.{List}
use Prim.Native.Nat.{ℕ, zero, suc, ◌+◌, ◌-◌, ◌≤◌, ◌<◌}
use native.Mathlib.Numerals.{add-one}
use native.Mathlib.Omega.{arith}
use lib.ListN.{length}
use Rattle.defs.specs.SeqGraph.{Graph, node_count}
use Rattle.defs.specs.Simplify.{RewriteKind, zip, diamond, tails, split, merge, first_at, transform_until_complete, fuel_for}
use Rattle.laws.proofs.Fuel.{Good}
use Rattle.laws.proofs.Measures.{weight, order-weight, enough-is, Tame, diamond-tame, tails-tame, merge-tame}
use Rattle.laws.proofs.Whole.{first_at-some, until_none, until-some}
use Rattle.tabs.proofs.Tabs.{one_less}
use Rattle.compact.proofs.CompactLaws.{order-in}
use Rattle.index.specs.Index.{Indexed, Indexable}
use Rattle.memory.specs.Memory.{graph_of, work_of, vertex_room, Ready, Counted, Left}
use Rattle.memory.specs.declared.Held.{Held}
use Rattle.std.specs.Prelude.{Option as OptionOf, Some, None}
use Rattle.memory.specs.declared.Work.{Work}
use Rattle.memory.proofs.RoomLaws.{held-vertices, held-edges, held-ends, room-kept, holds_kept}
use Rattle.until.specs.Until.{rewrite_of, Completed}

-- ---- what each kind takes away: a merge a vertex, the others a byte
pub measure_of : RewriteKind → Graph → ℕ
measure_of zip g = weight g
measure_of diamond g = weight g
measure_of tails g = weight g
measure_of split g = weight g
measure_of merge g = node_count g

never : {A : Type 0} (g : Graph) → none ≡ some g → A
never g q = absurd (let z : ◌≡◌ {A = ℕ} 0 1 = cc in omega arith)

pub falls : (kind : RewriteKind) (least : ℕ) → 3 < least → (g g' : Graph) (v : ℕ) → Good g → rewrite_of kind least g v ≡ some g' → Tame g g'
    × (measure_of kind g' < measure_of kind g)
unfolding measure_of
falls zip least pos g g' v h d = never g' d
falls diamond least pos g g' v h d = let z = diamond-tame g g' v h d in (z.0, z.2)
falls tails least pos g g' v h d = let z = tails-tame least pos g g' v h d in (z.0, z.2)
falls split least pos g g' v h d = never g' d
falls merge least pos g g' v h d = merge-tame g g' v h d

pub measure-most : (kind : RewriteKind) (g : Graph) → measure_of kind g ≤ weight g
unfolding measure_of
measure-most zip g = omega arith
measure-most diamond g = omega arith
measure-most tails g = omega arith
measure-most split g = omega arith
measure-most merge g = order-weight g

-- ---- the first vertex

first_next : (f : ℕ → Option Graph) (v n : ℕ) → f v ≡ none → first_at f v (suc n) ≡ first_at f (suc v) n
unfolding first_at
first_next f v n t = rw (t, first_at)

first-here : (f : ℕ → Option Graph) (v n : ℕ) (g : Graph) → f v ≡ some g → first_at f v (suc n) ≡ some g
unfolding first_at
first-here f v n g t = rw (t, first_at)

first_out : (f : ℕ → Option Graph) (v : ℕ) → first_at f v 0 ≡ none
unfolding first_at
first_out f v = refl

-- the slices are as they were, and no vertex before v allows it
pub record ScanningVertices (f : ℕ → Option Graph) (n : ℕ) (es₀ vs₀ p₀ nodes₀ mp₀ es vs p nodes mp : List ℕ) (v : ℕ) : Type 0 where
  pub high : v ≤ n
  pub same-es : es ≡ es₀
  pub same-vs : vs ≡ vs₀
  pub same-p : p ≡ p₀
  pub nodes-len : length nodes ≡ length nodes₀
  pub mp-len : length mp ≡ length mp₀
  pub is : first_at f v (n - v) ≡ first_at f 0 n

module _ {f : ℕ → Option Graph} {n : ℕ} {es₀ vs₀ p₀ nodes₀ mp₀ : List ℕ} where
  pub scanning-start : ScanningVertices f n es₀ vs₀ p₀ nodes₀ mp₀ es₀ vs₀ p₀ nodes₀ mp₀ 0
  scanning-start = record {
    high = omega arith;
    same-es = refl;
    same-vs = refl;
    same-p = refl;
    nodes-len = refl;
    mp-len = refl;
    is =
        ap (first_at f 0) (omega arith);
  }

  module _ {es vs p nodes mp : List ℕ} {v : ℕ} (S : ScanningVertices f n es₀ vs₀ p₀ nodes₀ mp₀ es vs p nodes mp v) (h : v < n)
      {heads nexts : List ℕ} {r : OptionOf Held} {es' vs' p' : List ℕ} where
    pub scanning-more : {nodes' mp' : List ℕ} → Left (f v) es vs p heads nexts r es' vs' p' → r ≡ None → length nodes'
        ≡ length nodes → length mp' ≡ length mp → ScanningVertices f n es₀ vs₀ p₀ nodes₀ mp₀ es' vs' p' nodes' mp' (v + 1)
    scanning-more L t a b = record {
      high = omega arith;
      same-es = L.same-es t ∙ S.same-es;
      same-vs = L.same-vs t ∙ S.same-vs;
      same-p = L.same-p t ∙ S.same-p;
      nodes-len = a ∙ S.nodes-len;
      mp-len = b ∙ S.mp-len;
      is = (λ j. first_at f (add-one v j) (n - (v + 1))) ∙ sym (first_next f v (n - (v + 1)) (L.no t)) ∙ ap (first_at f v) (sym (one_less n v h)) ∙ S.is;
    }

    pub scanning-found : {found : Held} → Left (f v) es vs p heads nexts r es' vs' p' → r ≡ Some found → Left (first_at f 0 n) es₀ vs₀ p₀ heads nexts r es' vs' p'
    scanning-found L t = record {
      no = λ s. absurd cc;
      same-es = λ s. absurd cc;
      same-vs = λ s. absurd cc;
      same-p = λ s. absurd cc;
      yes = λ k s. sym S.is ∙ ap (first_at f v) (one_less n v h) ∙ first-here f v (n - (v + 1)) _ (L.yes k s);
      holds = L.holds;
    }

  pub scanning-none : {es vs p nodes mp : List ℕ} {v : ℕ} → ScanningVertices f n es₀ vs₀ p₀ nodes₀ mp₀ es vs p nodes mp v → n ≤ v
      → (heads nexts : List ℕ) → Left (first_at f 0 n) es₀ vs₀ p₀ heads nexts None es vs p
  scanning-none {v = v} S h heads nexts = record {
    no = λ _. sym S.is ∙ ap (first_at f v) size ∙ first_out f v;
    same-es = λ _. S.same-es;
    same-vs = λ _. S.same-vs;
    same-p = λ _. S.same-p;
    yes = λ k t. absurd cc;
    holds = λ k t. absurd cc;
  }
    where
      size : n - v ≡ 0
      size = omega arith

-- ---- until complete

pub record Transforming (kind : RewriteKind) (least : ℕ) (w₀ : Work) (es₀ vs₀ p₀ heads₀ : List ℕ) (w : Work) (es vs p heads nexts nodes mp : List ℕ) : Type 0 where
  pub ready : Ready least w.held es vs p heads nexts nodes mp
  pub heads-len : length heads ≡ length heads₀
  pub fuel : ℕ
  pub enough : measure_of kind (graph_of w.held es vs p) < fuel
  pub is : transform_until_complete (rewrite_of kind least) fuel (work_of w es vs p)
      ≡ transform_until_complete (rewrite_of kind least) (fuel_for (graph_of w₀.held es₀ vs₀ p₀)) (work_of w₀ es₀ vs₀ p₀)
  pub count : w.rewrites + measure_of kind (graph_of w.held es vs p) ≤ w₀.rewrites + vertex_room heads₀

module _ {kind : RewriteKind} {least : ℕ} {w₀ : Work} {es₀ vs₀ p₀ heads₀ : List ℕ} where
  pub doing-start : {nexts nodes mp : List ℕ} → Ready least w₀.held es₀ vs₀ p₀ heads₀ nexts nodes mp
      → Transforming kind least w₀ es₀ vs₀ p₀ heads₀ w₀ es₀ vs₀ p₀ heads₀ nexts nodes mp
  doing-start R = record {
    ready = R;
    heads-len = refl;
    fuel = fuel_for (graph_of w₀.held es₀ vs₀ p₀);
    enough = omega (arith, measure-most kind (graph_of w₀.held es₀ vs₀ p₀), enough-is (graph_of w₀.held es₀ vs₀ p₀));
    is = refl;
    count = omega (arith, measure-most kind (graph_of w₀.held es₀ vs₀ p₀), R.holds.fit.light);
  }

  module _ {w : Work} {es vs p heads nexts nodes mp : List ℕ} (D : Transforming kind least w₀ es₀ vs₀ p₀ heads₀ w es vs p heads nexts nodes mp)
      {r : OptionOf Held} {es' vs' p' : List ℕ} (L : Left (first_at (rewrite_of kind least (graph_of w.held es vs p)) 0 w.held.n) es
      vs p heads nexts r es' vs' p') where
    abbrev g : Graph
    g = graph_of w.held es vs p

    order_is : node_count g ≡ w.held.n
    order_is = order-in w.held.k.0 w.held.n w.held.m es vs p

    pub doing_end : {nodes' mp' : List ℕ} → r ≡ None → length nodes' ≡ length nodes
        → length mp' ≡ length mp → Completed kind least w₀ es₀ vs₀ p₀ w es' vs' p' heads nexts nodes' mp'
    doing_end t a b = record {
      ready = record {
        least-is = D.ready.least-is;
        room = room-kept D.ready.room (ap length (L.same-es t)) (ap length (L.same-vs t)) (ap length (L.same-p t)) refl refl a b;
        holds = rw (L.same-es t, L.same-vs t, L.same-p t) D.ready.holds;
        indexed = rw (L.same-es t) D.ready.indexed;
      };
      is = (λ j. work_of w (L.same-es t j) (L.same-vs t j) (L.same-p t j)) ∙ sym (stop D.fuel D.enough) ∙ D.is;
      most = rw D.heads-len (omega (arith, D.count));
    }
      where
        stop : (fuel : ℕ) → measure_of kind g < fuel → transform_until_complete (rewrite_of kind least) fuel (work_of w es vs p) ≡ work_of w es vs p
        stop zero h = absurd (omega arith)
        stop (suc fuel) h = until_none (rewrite_of kind least) fuel (work_of w es vs p) (ap (first_at (rewrite_of kind least g) 0) order_is ∙ L.no t)

    module _ {k : Held} (t : r ≡ Some k) where
      abbrev g' : Graph
      g' = graph_of k es' vs' p'

      step : Tame g g' × (measure_of kind g' < measure_of kind g)
      step =
          let z = first_at-some (rewrite_of kind least g) 0 w.held.n g' (L.yes k t) in
          falls kind least D.ready.least-is g g' z.0 D.ready.holds.fit.good z.1

      pub doing-countable : Counted w₀.rewrites heads₀ → w.rewrites + 1 < 4294967296
      doing-countable C = omega (arith, D.count, step.1, C.small)

      pub doing-less : measure_of kind g' < measure_of kind g
      doing-less = step.1

      pub doing-indexable : length es' ≡ length es → Indexable k.m k.n es' heads nexts
      doing-indexable a = record {
        room = omega (arith, held-edges (L.holds k t), D.ready.room.es-room, a);
        heads-room = omega (arith, held-vertices (L.holds k t));
        nexts-room = omega (arith, held-edges (L.holds k t));
        small = omega (arith, held-edges (L.holds k t), D.ready.room.small);
        ends = held-ends (L.holds k t);
      }

      pub doing-more : {heads' nexts' nodes' mp' : List ℕ} → Indexed k.m k.n es' heads' nexts' → length es' ≡ length es
          → length vs' ≡ length vs → length p' ≡ length p
          → length heads' ≡ length heads → length nexts' ≡ length nexts → length nodes' ≡ length nodes → length mp' ≡ length mp
          → Transforming kind least w₀ es₀ vs₀ p₀ heads₀ record { held = k; rewrites = w.rewrites + 1 } es' vs' p' heads' nexts' nodes' mp'
      doing-more {heads'} {nexts'} {nodes'} {mp'} I a b c d e f i = go D.fuel D.enough D.is
        where
          go : (fuel : ℕ) → measure_of kind g < fuel → transform_until_complete (rewrite_of kind least) fuel (work_of w es vs p)
              ≡ transform_until_complete (rewrite_of kind least) (fuel_for (graph_of w₀.held es₀ vs₀ p₀)) (work_of w₀ es₀ vs₀ p₀)
              → Transforming kind least w₀ es₀ vs₀ p₀ heads₀ record { held = k; rewrites = w.rewrites + 1 } es' vs' p' heads' nexts' nodes' mp'
          go zero h q = absurd (omega arith)
          go (suc fuel) h q = record {
            ready = record { least-is = D.ready.least-is; room = room-kept D.ready.room a b c d e f i; holds = holds_kept (L.holds k t) d e; indexed = I };
            heads-len = d ∙ D.heads-len;
            fuel = fuel;
            enough = omega (arith, step.1);
            is = (λ j. transform_until_complete (rewrite_of kind least) fuel record { graph = g'; rewrites = add-one w.rewrites j })
                ∙ sym (until-some (rewrite_of kind least) fuel (work_of w es vs p) g' (ap (first_at (rewrite_of kind least g) 0) order_is ∙ L.yes k t)) ∙ q;
            count = omega (arith, D.count, step.1);
          }

-- the slices that were scanned are those at the start
module _ (kind : RewriteKind) (least : ℕ) {n : ℕ} (h : Held) {es₀ vs₀ p₀ nodes₀ mp₀ es vs p nodes mp : List ℕ} {v : ℕ}
    (S : ScanningVertices (rewrite_of kind least (graph_of h es₀ vs₀ p₀)) n es₀ vs₀ p₀ nodes₀ mp₀ es vs p nodes mp v) where
  pub scan-ready : {heads nexts : List ℕ} → Ready least h es₀ vs₀ p₀ heads nexts nodes₀ mp₀ → Ready least h es vs p heads nexts nodes mp
  scan-ready R = record {
    least-is = R.least-is;
    room = room-kept R.room (ap length S.same-es) (ap length S.same-vs) (ap length S.same-p) refl refl S.nodes-len S.mp-len;
    holds = rw (S.same-es, S.same-vs, S.same-p) R.holds;
    indexed = rw S.same-es R.indexed;
  }

  pub scan-left : {heads nexts : List ℕ} {r : OptionOf Held} {es' vs' p' : List ℕ}
      → Left (rewrite_of kind least (graph_of h es vs p) v) es vs p heads nexts r es' vs' p'
      → Left (rewrite_of kind least (graph_of h es₀ vs₀ p₀) v) es vs p heads nexts r es' vs' p'
  scan-left {heads} {nexts} {r} {es'} {vs'} {p'} L = subst (λ (o : Option Graph). Left o es vs p heads nexts r es' vs' p') (λ j.
      rewrite_of kind least (graph_of h (S.same-es j) (S.same-vs j) (S.same-p j)) v) L
