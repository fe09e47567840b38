-- The loops of the splits. Assumes nothing.
use mathlib.Core.Path.{◌≡◌, refl, sym, ap, ◌∙◌, subst}
use mathlib.Core.Bool.{false}
use mathlib.Core.Option.{Option, some}
use mathlib.Core.List.{List, [], ◌∷◌}
use Prim.Native.Nat.{ℕ, zero, suc, ◌+◌, ◌-◌, ◌≤◌, ◌<◌}
use native.Mathlib.Numerals.{add-one}
use native.Mathlib.Omega.{arith}
use lib.ListN.{length, get_or, set, length-set, length-append}
use lib.Seq.{get_or-set_same, get_or-set_other}
use lib.Dec.{eqb}
use borrow.Author.Tests.{eqb-true, eqb-false}
use Rattle.defs.specs.Lists.{rank, elem_of}
use Rattle.defs.specs.SeqGraph.{Graph, node_count, incoming_nodes, keeps, remap_numbers, with_additions, apply_change, remove_vertices_by_id}
use Rattle.defs.specs.Rewrites.{splits_suffix, split_change, try_split_common_suffix}
use Rattle.defs.specs.Simplify.{first_split, split_until_complete, fuel_for}
use Rattle.laws.proofs.Walks.{by_test}
use Rattle.laws.proofs.ListLaws.{clash, given-some, rank_mono}
use Rattle.laws.proofs.Nets.{order-restrict}
use Rattle.laws.proofs.Measures.{weight, order-weight, enough-is, Tame}
use Rattle.laws.proofs.Bound.{first_split-tame}
use Rattle.laws.proofs.Whole.{first_split-zero, first_split-tried, first_split-none, first_split-some, split_all-none, split_all-some}
use Rattle.tabs.proofs.Tabs.{one_less}
use Rattle.tabs.proofs.Ranks.{rank_same}
use Rattle.compact.specs.Compact.{Cleared}
use Rattle.compact.proofs.CompactLaws.{order-in}
use Rattle.store.specs.Store.{is_set, kept_by}
use Rattle.store.proofs.EdgeLaws.{set_is, set-not}
use Rattle.index.specs.Index.{Indexed, Indexable}
use Rattle.memory.specs.Memory.{graph_of, work_of, vertex_room, Ready, Counted, Left}
use Rattle.memory.specs.declared.Held.{Held}
use Rattle.std.specs.Prelude.{Option as OptionOf, Some, None}
use Rattle.memory.specs.declared.Work.{Work}
use Rattle.memory.proofs.RoomLaws.{held-vertices, held-edges, held-ends, room-kept, holds_kept}
use Rattle.split_suffix.specs.Split.{SplitTried}
use Rattle.splits.specs.Splits.{TriedMarks, MarksMoved, Remarked, SplitFound, SplitFirst, SplitAll}
use Rattle.splits.proofs.MarkLaws.{marks-after}

-- ---- one split

grown : (g : Graph) (v : ℕ) → node_count g ≤ node_count (with_additions (split_change g v) g)
unfolding with_additions node_count
grown g v = omega (arith, length-append g.verts (split_change g v).verts)

-- after a split there are at least the vertices that stay
split-order : (g : Graph) (v : ℕ) (g' : Graph) → try_split_common_suffix g v ≡ some g' → rank (keeps (incoming_nodes g v)) (node_count g) ≤ node_count g'
split-order g v g' d =
    let e : apply_change g (split_change g v) ≡ g' = unfold try_split_common_suffix in (given-some (splits_suffix g v) (apply_change g (split_change g v)) g' d).1 in
    omega (arith, ap node_count e, left, rank_mono (keeps (incoming_nodes g v)) (node_count g) (node_count (with_additions (split_change g v) g)) (grown g v))
  where
    left : node_count (apply_change g (split_change g v)) ≡ rank (keeps (incoming_nodes g v)) (node_count (with_additions (split_change g v) g))
    left = unfold apply_change remove_vertices_by_id split_change in (order-restrict (keeps (incoming_nodes g v)) (with_additions (split_change g v) g))

module _ {h : Held} {es vs p heads nexts : List ℕ} {v : ℕ} {r : OptionOf Held} {es' vs' mp' : List ℕ} (S : SplitTried h es vs p heads nexts v r es' vs' mp') where
  pub remarked-no : {tried : List ℕ} → r ≡ None → Remarked h es vs p heads nexts tried v r es' vs' tried
  remarked-no t = record { left = S.left; same = λ _. refl; marks = λ k s. absurd cc }

  module _ {k : Held} (t : r ≡ Some k) where
    -- the vertices that stay come first, the new ones behind them
    pub kept-first : rank (kept_by mp') h.n ≤ k.n
    kept-first =
        let gone = incoming_nodes (graph_of h es vs p) v in
        omega (
          arith,
          rank_same (kept_by mp') (keeps gone) h.n (λ u b. S.kept k t u b),
          split-order (graph_of h es vs p) v (graph_of k es' vs' p) (S.left.yes k t),
          ap (rank (keeps gone)) (order-in h.k.0 h.n h.m es vs p),
          order-in k.k.0 k.n k.m es' vs' p,
        )

    pub remarked-yes : {tried tried₁ tried' : List ℕ} {j : ℕ} → MarksMoved tried h.n mp' j tried₁
        → Cleared tried₁ j k.n tried' → Remarked h es vs p heads nexts tried v r es' vs' tried'
    remarked-yes {tried} {tried₁} {tried'} {j} M C = record {
      left = S.left;
      same = λ s. absurd cc;
      marks = λ k' s list K. let e : k ≡ k' = cc in
          subst (λ (x : Held). TriedMarks x.n tried' (remap_numbers (incoming_nodes (graph_of h es vs p) v) list)) e
          (marks-after h.n k.n j mp' (incoming_nodes (graph_of h es vs p) v) tried tried₁ tried' (S.kept k t) M C
          (omega (arith, M.count, kept-first)) list K);
    }

-- ---- the first split

-- the marks with one more
more-marks : {n : ℕ} {l list : List ℕ} (u : ℕ) → u < n → n ≤ length l → TriedMarks n l list → TriedMarks n (set l u 1) (u ∷ list)
unfolding elem_of
more-marks {n} {l} {list} u h r K = record {
  at = λ v b. by_test (eqb v u)
      (λ t. rw (t, elem_of) (ap is_set (same_place v (eqb-true v u t))))
      (λ t. rw (t, elem_of) (ap is_set (get_or-set_other l u v 1 0 (eqb-false v u t)) ∙ K.at v b));
  below = λ v. by_test (eqb v u)
      (λ t e. rw (eqb-true v u t) h)
      (λ t. rw (t, elem_of) (λ e. K.below v e));
}
  where
    same_place : (v : ℕ) → v ≡ u → get_or (set l u 1) v 0 ≡ 1
    same_place v q = rw q (get_or-set_same l u 1 0 (omega arith))

pub record SplitsReached (g : Graph) (n : ℕ) (list tried : List ℕ) (v : ℕ) : Type 0 where
  pub now : List ℕ
  pub marks : TriedMarks n tried now
  pub is : first_split g now v (n - v) ≡ first_split g list 0 n

pub record Splitting (h : Held) (es₀ vs₀ p nodes₀ mp₀ tried₀ es vs nodes mp tried : List ℕ) (v : ℕ) : Type 0 where
  pub high : v ≤ h.n
  pub same-es : es ≡ es₀
  pub same-vs : vs ≡ vs₀
  pub nodes-len : length nodes ≡ length nodes₀
  pub mp-len : length mp ≡ length mp₀
  pub tried-len : length tried ≡ length tried₀
  pub reached : (list : List ℕ) → TriedMarks h.n tried₀ list → SplitsReached (graph_of h es₀ vs₀ p) h.n list tried v

module _ {h : Held} {es₀ vs₀ p nodes₀ mp₀ tried₀ : List ℕ} where
  pub splitting-start : Splitting h es₀ vs₀ p nodes₀ mp₀ tried₀ es₀ vs₀ nodes₀ mp₀ tried₀ 0
  splitting-start = record {
    high = omega arith;
    same-es = refl;
    same-vs = refl;
    nodes-len = refl;
    mp-len = refl;
    tried-len = refl;
    reached = λ list K. record { now = list; marks = K; is = ap (first_split (graph_of h es₀ vs₀ p) list 0) (omega arith) };
  }

  module _ {es vs nodes mp tried : List ℕ} {v : ℕ} (S : Splitting h es₀ vs₀ p nodes₀ mp₀ tried₀ es vs nodes mp tried v) where
    pub splitting-ready : {heads nexts : List ℕ} → Ready 4 h es₀ vs₀ p heads nexts nodes₀ mp₀ → Ready 4 h es vs p heads nexts nodes mp
    splitting-ready R = record {
      least-is = R.least-is;
      room = room-kept R.room (ap length S.same-es) (ap length S.same-vs) refl refl refl S.nodes-len S.mp-len;
      holds = rw (S.same-es, S.same-vs) R.holds;
      indexed = rw S.same-es R.indexed;
    }

    -- a marked vertex is passed over
    pub splitting-tried : v < h.n → (get_or tried v 0 ≡ 0 → ⊥) → Splitting h es₀ vs₀ p nodes₀ mp₀ tried₀ es vs nodes mp tried (v + 1)
    splitting-tried b o = record {
      high = omega arith;
      same-es = S.same-es;
      same-vs = S.same-vs;
      nodes-len = S.nodes-len;
      mp-len = S.mp-len;
      tried-len = S.tried-len;
      reached = λ list K. let z = S.reached list K in record {
        now = z.now;
        marks = z.marks;
        is = (λ j. first_split (graph_of h es₀ vs₀ p) z.now (add-one v j) (h.n - (v + 1)))
            ∙ sym (first_split-tried (graph_of h es₀ vs₀ p) z.now v (h.n - (v + 1)) (sym (z.marks.at v b) ∙ set_is o))
            ∙ ap (first_split (graph_of h es₀ vs₀ p) z.now v) (sym (one_less h.n v b)) ∙ z.is;
      };
    }

    module _ (b : v < h.n) (o : get_or tried v 0 ≡ 0) (room : h.n ≤ length tried₀) {heads nexts : List ℕ} {r : OptionOf Held} {es' vs' tried' : List ℕ}
        (R : Remarked h es vs p heads nexts (set tried v 1) v r es' vs' tried') where
      left : Left (try_split_common_suffix (graph_of h es₀ vs₀ p) v) es vs p heads nexts r es' vs' p
      left = subst (λ (x : Option Graph). Left x es vs p heads nexts r es' vs' p) (λ j.
          try_split_common_suffix (graph_of h (S.same-es j) (S.same-vs j) p) v) R.left

      not_in : (list : List ℕ) → TriedMarks h.n tried list → elem_of v list ≡ false
      not_in list K = sym (K.at v b) ∙ set-not o

      marked : (list : List ℕ) → TriedMarks h.n tried list → TriedMarks h.n (set tried v 1) (v ∷ list)
      marked list K = more-marks v b (omega (arith, S.tried-len)) K

      pub splitting-none : {nodes' mp' : List ℕ} → r ≡ None → length nodes' ≡ length nodes → length mp' ≡ length mp
          → Splitting h es₀ vs₀ p nodes₀ mp₀ tried₀ es' vs' nodes' mp' tried' (v + 1)
      splitting-none t a c = record {
        high = omega arith;
        same-es = left.same-es t ∙ S.same-es;
        same-vs = left.same-vs t ∙ S.same-vs;
        nodes-len = a ∙ S.nodes-len;
        mp-len = c ∙ S.mp-len;
        tried-len = ap length (R.same t) ∙ length-set tried v 1 ∙ S.tried-len;
        reached = λ list K. let z = S.reached list K in record {
          now = v ∷ z.now;
          marks = rw (R.same t) (marked z.now z.marks);
          is = (λ j. first_split (graph_of h es₀ vs₀ p) (v ∷ z.now) (add-one v j) (h.n - (v + 1)))
              ∙ sym (first_split-none (graph_of h es₀ vs₀ p) z.now v (h.n - (v + 1)) (not_in z.now z.marks) (left.no t))
              ∙ ap (first_split (graph_of h es₀ vs₀ p) z.now v) (sym (one_less h.n v b)) ∙ z.is;
        };
      }

      pub splitting-found : {found : Held} → r ≡ Some found → SplitFirst h es₀ vs₀ p heads nexts tried₀ r es' vs' tried'
      splitting-found t = record {
        same-es = λ s. absurd cc;
        same-vs = λ s. absurd cc;
        no = λ s. absurd cc;
        yes = λ k s list K. let z = S.reached list K in record {
          list = remap_numbers (incoming_nodes (graph_of h es₀ vs₀ p) v) (v ∷ z.now);
          is = sym z.is ∙ ap (first_split (graph_of h es₀ vs₀ p) z.now v) (one_less h.n v b)
              ∙ first_split-some (graph_of h es₀ vs₀ p) z.now v (h.n - (v + 1)) (graph_of k es' vs' p) (not_in z.now z.marks)
              (left.yes k s);
          at = subst (λ (x : Graph). TriedMarks k.n tried' (remap_numbers (incoming_nodes x v) (v ∷ z.now))) (λ j.
              graph_of h (S.same-es j) (S.same-vs j) p) (R.marks k s (v ∷ z.now) (marked z.now z.marks));
        };
        holds = left.holds;
      }

    pub splitting-end : h.n ≤ v → (heads nexts : List ℕ) → SplitFirst h es₀ vs₀ p heads nexts tried₀ None es vs tried
    splitting-end b heads nexts = record {
      same-es = λ _. S.same-es;
      same-vs = λ _. S.same-vs;
      no = λ _ list K. let z = S.reached list K in sym z.is ∙ ap (first_split (graph_of h es₀ vs₀ p) z.now v) (nothing b)
          ∙ first_split-zero (graph_of h es₀ vs₀ p) z.now v;
      yes = λ k s. absurd cc;
      holds = λ k s. absurd cc;
    }
      where
        nothing : h.n ≤ v → h.n - v ≡ 0
        nothing c = omega arith

-- ---- all splits

pub none-marked : (n : ℕ) (l : List ℕ) → ((i : ℕ) → 0 ≤ i → i < n → get_or l i 0 ≡ 0) → TriedMarks n l []
unfolding elem_of
none-marked n l h = record { at = λ v b. ap is_set (h v (omega arith) b); below = λ v e. clash e refl }

pub record SplittingRound (w₀ : Work) (es₀ vs₀ p heads₀ : List ℕ) (w : Work) (es vs heads nexts nodes mp tried : List ℕ) : Type 0 where
  pub ready : Ready 4 w.held es vs p heads nexts nodes mp
  pub heads-len : length heads ≡ length heads₀
  pub list : List ℕ
  pub marks : TriedMarks w.held.n tried list
  pub fuel : ℕ
  pub enough : weight (graph_of w.held es vs p) < fuel + w.held.n
  pub is : split_until_complete fuel list (work_of w es vs p) ≡ split_until_complete (fuel_for (graph_of w₀.held es₀ vs₀ p)) [] (work_of w₀ es₀ vs₀ p)
  pub count : w.rewrites + w₀.held.n ≤ w₀.rewrites + w.held.n

module _ {w₀ : Work} {es₀ vs₀ p heads₀ : List ℕ} where
  pub doing-start : {nexts nodes mp tried : List ℕ} → Ready 4 w₀.held es₀ vs₀ p heads₀ nexts nodes mp → TriedMarks w₀.held.n tried []
      → SplittingRound w₀ es₀ vs₀ p heads₀ w₀ es₀ vs₀ heads₀ nexts nodes mp tried
  doing-start R K = record {
    ready = R;
    heads-len = refl;
    list = [];
    marks = K;
    fuel = fuel_for (graph_of w₀.held es₀ vs₀ p);
    enough = omega (arith, enough-is (graph_of w₀.held es₀ vs₀ p));
    is = refl;
    count = omega arith;
  }

  module _ {w : Work} {es vs heads nexts nodes mp tried : List ℕ} (D : SplittingRound w₀ es₀ vs₀ p heads₀ w es vs heads nexts nodes mp tried)
      {r : OptionOf Held} {es' vs' tried' : List ℕ} (S : SplitFirst w.held es vs p heads nexts tried r es' vs' tried') where
    abbrev G : Graph
    G = graph_of w.held es vs p

    order_is : node_count G ≡ w.held.n
    order_is = order-in w.held.k.0 w.held.n w.held.m es vs p

    pub doing_end : {nodes' mp' : List ℕ} → r ≡ None → length nodes' ≡ length nodes → length mp' ≡ length mp
        → SplitAll w₀ es₀ vs₀ p w es' vs' heads nexts nodes' mp'
    doing_end t a b = record {
      ready = record {
        least-is = D.ready.least-is;
        room = room-kept D.ready.room (ap length (S.same-es t)) (ap length (S.same-vs t)) refl refl refl a b;
        holds = rw (S.same-es t, S.same-vs t) D.ready.holds;
        indexed = rw (S.same-es t) D.ready.indexed;
      };
      is = (λ j. work_of w (S.same-es t j) (S.same-vs t j) p) ∙ sym (stop D.fuel D.enough) ∙ D.is;
      most = omega (arith, D.count, held-vertices D.ready.holds);
    }
      where
        stop : (fuel : ℕ) → weight G < fuel + w.held.n → split_until_complete fuel D.list (work_of w es vs p) ≡ work_of w es vs p
        stop zero h = absurd (omega (arith, order-weight G, order_is))
        stop (suc fuel) h = split_all-none fuel D.list (work_of w es vs p) (ap (first_split G D.list 0) order_is ∙ S.no t D.list D.marks)

    module _ {k : Held} (t : r ≡ Some k) where
      found : SplitFound (first_split G D.list 0 w.held.n) (graph_of k es' vs' p) k.n tried'
      found = S.yes k t D.list D.marks

      step : Tame G (graph_of k es' vs' p) × (w.held.n < k.n)
      step =
          let z = first_split-tame G D.list 0 w.held.n record { graph = graph_of k es' vs' p; tried = found.list }
          D.ready.holds.fit.good found.is in
          (z.0, omega (arith, z.1, order_is, order-in k.k.0 k.n k.m es' vs' p))

      pub doing-countable : Counted w₀.rewrites heads₀ → w.rewrites + 1 < 4294967296
      doing-countable C = omega (arith, D.count, step.1, C.small, held-vertices (S.holds k t), D.heads-len)

      pub doing-less : vertex_room heads - k.n < vertex_room heads - w.held.n
      doing-less = omega (arith, step.1, held-vertices (S.holds k t))

      pub doing-indexable : length es' ≡ length es → Indexable k.m k.n es' heads nexts
      doing-indexable a = record {
        room = omega (arith, held-edges (S.holds k t), D.ready.room.es-room, a);
        heads-room = omega (arith, held-vertices (S.holds k t));
        nexts-room = omega (arith, held-edges (S.holds k t));
        small = omega (arith, held-edges (S.holds k t), D.ready.room.small);
        ends = held-ends (S.holds k t);
      }

      pub doing-more : {heads' nexts' nodes' mp' : List ℕ} → Indexed k.m k.n es' heads' nexts' → length es' ≡ length es
          → length vs' ≡ length vs
          → length heads' ≡ length heads → length nexts' ≡ length nexts → length nodes' ≡ length nodes → length mp' ≡ length mp
          → SplittingRound w₀ es₀ vs₀ p heads₀ record { held = k; rewrites = w.rewrites + 1 } es' vs' heads' nexts' nodes' mp' tried'
      doing-more {heads'} {nexts'} {nodes'} {mp'} I a b d e f i = go D.fuel D.enough D.is
        where
          go : (fuel : ℕ) → weight G < fuel + w.held.n → split_until_complete fuel D.list (work_of w es vs p)
              ≡ split_until_complete (fuel_for (graph_of w₀.held es₀ vs₀ p)) [] (work_of w₀ es₀ vs₀ p)
              → SplittingRound w₀ es₀ vs₀ p heads₀ record { held = k; rewrites = w.rewrites + 1 } es' vs' heads' nexts' nodes' mp' tried'
          go zero h q = absurd (omega (arith, order-weight G, order_is))
          go (suc fuel) h q = record {
            ready = record {
              least-is = D.ready.least-is;
              room = room-kept D.ready.room a b refl d e f i;
              holds =
                  holds_kept (S.holds k t) d e;
              indexed = I;
            };
            heads-len = d ∙ D.heads-len;
            list = found.list;
            marks = found.at;
            fuel = fuel;
            enough = omega (arith, step.0.light, step.1);
            is = (λ j. split_until_complete fuel found.list record { graph = graph_of k es' vs' p; rewrites = add-one w.rewrites j })
                ∙ sym (split_all-some fuel D.list (work_of w es vs p) record { graph = graph_of k es' vs' p; tried = found.list }
                (ap (first_split G D.list 0) order_is ∙ found.is)) ∙ q;
            count = omega (arith, D.count, step.1);
          }
