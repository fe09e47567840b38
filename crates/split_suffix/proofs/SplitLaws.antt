-- The steps of a split make `split_change`, there is room for them, and what a try leaves. Assumes nothing.
use mathlib.Core.Path.{◌≡◌, refl, sym, ap, ◌∙◌, subst}
use mathlib.Core.Bool.{Bool, true, false}
use mathlib.Core.Option.{Option, none, some}
use mathlib.Core.List.{List, ◌++◌, map, Memᴰ}
use Prim.Native.Nat.{ℕ, ◌+◌, ◌*◌, ◌-◌, ◌≤◌, ◌<◌}
use native.Mathlib.Omega.{arith}
use lib.ListN.{length, get_or}
use borrow.Author.Tests.{eqb-true}
use Rattle.defs.specs.Lists.{elem_of, common_suffix, given}
use Rattle.defs.specs.SeqGraph.{Edge, Graph, Change, node_count, vertex_sequence, incoming_nodes, outgoing_nodes, keeps, remove_vertices_by_id}
use Rattle.defs.specs.SeqGraph.{with_additions, apply_change, add_or_update_edges}
use Rattle.defs.specs.Rewrites.{is_split, split_suffix, splits_suffix, split_change, split_vertices, split_edges, try_split_common_suffix}
use Rattle.laws.proofs.Walks.{by_test}
use Rattle.laws.proofs.ListLaws.{by_order, given-some}
use Rattle.laws.proofs.Edges.{elem_of-true, of-mem-ins, order-grown}
use Rattle.laws.proofs.Diamonds.{of-mem-outs}
use Rattle.laws.proofs.Changes.{Local, edges-local, verts-local, bounded-grown}
use Rattle.laws.proofs.SplitsCounts as Q
use Rattle.laws.proofs.Fuel.{Good}
use Rattle.laws.proofs.Measures.{load, Tame, split-tame}
use Rattle.tabs.proofs.Tabs.{length-tab}
use Rattle.store.specs.Store.{part, edge_in, edges_in, seqs_in, graph_in, nums_in}
use Rattle.compact.specs.Compact.{Compactable, Below, Removed}
use Rattle.compact.specs.declared.Counts.{Counts}
use Rattle.compact.proofs.CompactLaws.{order-in, mem-ends}
use Rattle.index.specs.Index.{edge_end, incident_edges, Indexed, Collected}
use Rattle.index.proofs.IndexLaws.{at_none, pair-first}
use Rattle.memory.specs.Memory.{graph_of, vertex_room, edge_room, Room, Fit, Holds}
use Rattle.memory.specs.declared.Held.{Held}
use Rattle.memory.proofs.RoomLaws.{fit-vertices, fit_edges, fit-tame, held-vertices, held-pool}
use Rattle.shared.specs.Shared.{start_at, len_at, Suffix}
use Rattle.merge_suffices.proofs.TryLaws.{prevs-are, prevs-below}
use Rattle.split_tests.specs.SplitTests.{SplitTestable, suffix_of, BeforeBottom, suffix_by, Splits}
use Rattle.std.specs.Prelude.{Option as OptionOf, Some, None}
use Rattle.split_tests.proofs.TestLaws as T
use Rattle.split_suffix.specs.Split.{suffix_number, suffix_edges, suffix_verts, SplitEdgesReady, SplitEdgesDone, VertsReady, VertsDone, Ending, SplitTried}
use Rattle.split_suffix.proofs.EdgeLoops.{number-low}
use Rattle.split_suffix.proofs.ListForms as F

given-none : {A : Type 0} (b : Bool) (a : A) → given b a ≡ none → b ≡ false
unfolding given
given-none true a e = absurd (let z : ◌≡◌ {A = ℕ} 0 1 = cc in omega arith)
given-none false a e = refl

module _ {h : Held} {es vs p heads nexts nodes mp : List ℕ} (R : Room es vs p heads nexts nodes mp) (H : Holds h es vs p heads nexts) (I :
    Indexed h.m h.n es heads nexts)
    {bottom c : ℕ} {prevs : List ℕ} (C : Collected 1 h.m es bottom c prevs) (q : length prevs ≡ length nodes) where
  abbrev g : Graph
  g = graph_of h es vs p

  abbrev good : Good g
  good = H.fit.good

  abbrev before-bottom : List ℕ
  before-bottom = incoming_nodes g bottom

  are : nums_in c prevs ≡ before-bottom
  are = prevs-are R H C q

  below : Below prevs c h.n
  below = prevs-below R H C q

  order : node_count g ≡ h.n
  order = order-in h.k.0 h.n h.m es vs p

  pub split-testable : SplitTestable h.n h.m es vs p heads nexts prevs c
  split-testable = record { indexed = I; vs-room = omega (arith, held-vertices H, R.vs-room); pool = held-pool H R; below = below }

  -- in a graph without cycles
  before : BeforeBottom g bottom (nums_in c prevs)
  before = record {
    other = λ v m e. omega (arith, up v m, ap good.0.rank e);
    not_behind = λ v m. by_test (elem_of v (outgoing_nodes g bottom)) (λ t.
        absurd (omega (arith, up v m, good.0.ranks bottom v (of-mem-outs g bottom v (elem_of-true v _ t))))) (λ t. t);
  }
    where
      up : (v : ℕ) → Memᴰ v (nums_in c prevs) → good.0.rank v < good.0.rank bottom
      up v m = good.0.ranks v bottom (of-mem-ins g v bottom (subst (λ (l : List ℕ). Memᴰ v l) are m))

  abbrev suffix : List ℕ
  suffix = common_suffix (map (vertex_sequence g) before-bottom)

  abbrev change : Change
  change = record { verts = split_vertices g suffix before-bottom; edges = split_edges g bottom suffix (node_count g) before-bottom; gone = before-bottom }

  split-to : {t : Bool} → is_split g bottom (nums_in c prevs) (suffix_of g (nums_in c prevs)) ≡ t → is_split g bottom before-bottom suffix ≡ t
  split-to e = ap (λ (l : List ℕ). is_split g bottom l (suffix_of g l)) (sym are) ∙ e

  module _ {by : OptionOf ℕ} (S : Splits h.n h.m es vs p prevs c by) where
    splits-as : {o : Option ℕ} → suffix_by by ≡ o
        → given (is_split g bottom (nums_in c prevs) (suffix_of g (nums_in c prevs))) (length (suffix_of g (nums_in c prevs))) ≡ o
    splits-as q = sym (S.is h.k.0 bottom before) ∙ q

    pub left_not : {mp' : List ℕ} → by ≡ None → SplitTried h es vs p heads nexts bottom None es vs mp'
    unfolding try_split_common_suffix splits_suffix split_suffix given
    left_not z = let e = split-to (given-none _ _ (splits-as (ap suffix_by z))) in record {
      left = record {
        no = λ _. rw e;
        same-es = λ _. refl;
        same-vs = λ _. refl;
        same-p = λ _. refl;
        yes = λ k x. absurd cc;
        holds = λ k x. absurd cc;
      };
      numbered = λ k x. absurd cc;
      kept = λ k x. absurd cc;
    }

    module _ {s : ℕ} (found : by ≡ Some s) where
      did : try_split_common_suffix g bottom ≡ some (apply_change g change)
      unfolding try_split_common_suffix splits_suffix split_suffix split_change given
      did = let e = split-to (given-some _ _ s (splits-as (ap suffix_by found))).0 in rw e

      tame : Tame g (apply_change g change) × (node_count g < node_count (apply_change g change))
      tame = split-tame g (apply_change g change) bottom good did

      fit-new : Fit (apply_change g change) heads nexts
      fit-new = fit-tame H.fit tame.0

      local : Local g change
      local = Q.local g (apply_change g change) bottom good.0 good.1 did

      -- one edge less than the room
      few-edges : length (with_additions change g).edges + 1 ≤ 2 * edge_room nexts
      unfolding load
      few-edges = omega (arith, edges-local g good.0.bounded change local, fit_edges fit-new, H.fit.surplus, tame.1, fit-vertices fit-new)

      few-vertices : node_count (with_additions change g) ≤ 2 * vertex_room heads
      few-vertices = omega (
        arith,
        verts-local g good.0.bounded change local
            (Q.once-prevs g (apply_change g change) bottom good.0 good.1 did),
        fit-vertices fit-new,
        fit-vertices H.fit,
      )

      -- ---- by index

      two : 2 ≤ c
      two = (S.by s found).several

      shared : Suffix vs p prevs 0 c s
      shared = (S.by s found).suffix

      abbrev start : ℕ
      start = start_at vs prevs 0 + len_at vs prevs 0 - s

      suffix-is : suffix ≡ part p start s
      suffix-is = ap (suffix_of g) (sym are) ∙ T.suffix-is split-testable h.k.0 bottom shared two

      suffix-long : length suffix ≡ s
      suffix-long = ap (λ (l : List ℕ). length (suffix_of g l)) (sym are) ∙ T.suffix-long split-testable h.k.0 bottom shared two

      all : (i : ℕ) → i < c → s ≤ get_or vs (2 * get_or prevs i 0 + 1) 0
      all i b = omega (arith, shared.all i b)

      outs : (i : ℕ) → i < c → get_or heads (2 * get_or prevs i 0) 0 < h.m
      outs i b = by_order h.m (get_or heads (2 * get_or prevs i 0) 0)
          (λ a. absurd (omega (
            arith,
            eqb-true (length (incident_edges (edge_end 0 es) h.m (get_or prevs i 0))) 1 ((S.by s found).single i b),
            ap length (at_none (I.index 0 (omega arith)) (below.at i b) (get_or heads (2 * get_or prevs i 0) 0)
                (pair-first heads (get_or prevs i 0)) a),
          )))
          (λ a. a)

      verts-are : suffix_verts vs p prevs start s c ≡ change.verts
      verts-are = F.verts-are h.k.0 h.n h.m s start es vs p heads nexts prevs c bottom suffix I (held-pool H R) below suffix-is
          suffix-long all outs c (omega arith) ∙ ap (split_vertices g suffix) are

      edges_are : suffix_edges heads h.m h.n s es vs prevs bottom c ≡ change.edges
      edges_are = F.edges_are h.k.0 h.n h.m s start es vs p heads nexts prevs c bottom suffix I (held-pool H R) below suffix-is
          suffix-long all outs c (omega arith)
          ∙ (λ i. split_edges g bottom suffix (sym order i) (are i))

      number_is : suffix_number vs prevs s h.n c ≡ node_count (with_additions change g)
      number_is = F.number-are h.k.0 h.n h.m s start es vs p heads nexts prevs c bottom suffix I (held-pool H R) below suffix-is
          suffix-long all outs c (omega arith)
          ∙ omega (arith, order-grown g change, order, ap (λ (l : List ℕ). length (split_vertices g suffix l)) are)

      edges-with : add_or_update_edges (suffix_edges heads h.m h.n s es vs prevs bottom c) (edges_in h.m es) ≡ (with_additions change g).edges
      edges-with = ap (λ (x : List Edge). add_or_update_edges x (edges_in h.m es)) edges_are ∙ unfold with_additions in refl

      pub split-ending : Ending vs (get_or prevs 0 0) s
      split-ending = record {
        room = omega (arith, below.at 0 (omega (arith, two)), held-vertices H, R.vs-room);
        long = all 0 (omega (arith, two));
        small = omega (arith, H.within.at (get_or prevs 0 0) (below.at 0 (omega (arith, two))), H.used-room, R.vertices-edges, R.small);
      }

      pub first-room : 0 < length prevs
      first-room = omega (arith, two, below.room)

      pub split-edges-ready : bottom < h.n → SplitEdgesReady h.m h.n s es heads nexts vs prevs c bottom mp
      split-edges-ready b = record {
        indexed = I;
        vs-room = omega (arith, held-vertices H, R.vs-room);
        prevs = below;
        outs = outs;
        bottom-below = b;
        mp-room = omega (arith, held-vertices H, R.map-room);
        roomy = record { room = omega (arith, ap length edges-with, few-edges, R.es-room); small = omega (arith, ap length edges-with, few-edges, R.small) };
        small = omega (arith, number_is, few-vertices, R.vertices-edges, R.small);
      }

      pub split-verts-ready : VertsReady h.n vs prevs c s
      split-verts-ready = record {
        prevs = below;
        room = omega (arith, number_is, few-vertices, R.vs-room);
        small = λ v b. omega (arith, H.within.at v b, H.used-room, R.vertices-edges, R.small);
        s-small = omega (arith, split-ending.long, split-ending.small);
      }

      module _ {k j from : ℕ} {es₁ vs₁ : List ℕ} (E : SplitEdgesDone h.m h.n s es heads vs prevs c bottom k es₁) (V₁ :
          VertsDone h.n vs prevs c from s j vs₁) (qf : from ≡ start) where
        j-is : j ≡ node_count (with_additions change g)
        j-is = V₁.count ∙ number_is

        k-few : k + 1 ≤ 2 * edge_room nexts
        k-few = omega (arith, length-tab k (edge_in es₁), ap length (E.is ∙ edges-with), few-edges)

        low : h.n ≤ j
        low = omega (arith, V₁.count, number-low vs prevs s h.n c)

        pub split-compactable : {mp₁ : List ℕ} → length es₁ ≡ length es → length vs₁ ≡ length vs → length mp₁ ≡ length mp → Compactable j k es₁ vs₁ mp₁
        split-compactable a b d = record {
          es-room = omega (arith, a, k-few, R.es-room);
          vs-room = omega (arith, b, j-is, few-vertices, R.vs-room);
          mp-room = omega (arith, d, j-is, few-vertices, R.map-room);
          small = omega (arith, j-is, few-vertices, R.vertices-edges, R.small);
          ends = mem-ends j k es₁ (λ e m. let z = bounded-grown g good.0.bounded change local e
              (subst (λ (l : List Edge). Memᴰ e l) (E.is ∙ edges-with) m) in (omega (arith, z.0, j-is), omega (arith, z.1, j-is)));
        }

        pub split_below : Below prevs c j
        split_below = record { room = below.room; at = λ i b. omega (arith, below.at i b, low) }

        module _ {r : Counts} {es₂ vs₂ mp₂ : List ℕ} (D : Removed j k es₁ vs₁ (nums_in c prevs) r es₂ vs₂ mp₂) where
          removed-is : graph_in h.k.0 r.n r.m es₂ vs₂ p ≡ apply_change g change
          unfolding apply_change with_additions
          removed-is = D.is h.k.0 p ∙ (λ i. remove_vertices_by_id (are i) record { k = h.k.0; verts = verts-with i; edges = (E.is ∙ edges-with) i })
            where
              verts-with : seqs_in j vs₁ p ≡ g.verts ++ change.verts
              verts-with = V₁.is p ∙ ap (λ (x : ℕ). seqs_in h.n vs p ++ suffix_verts vs p prevs x s c) qf ∙ ap (λ (x : List (List ℕ)). g.verts ++ x) verts-are

          abbrev after : Held
          after = record { k = h.k; n = r.n; m = r.m; used = h.used }

          holds-after : Holds after es₂ vs₂ p heads nexts
          holds-after = record {
            fit = rw removed-is fit-new;
            within = D.within h.used (V₁.within h.used H.within
                (omega (arith, qf, split-ending.long, H.within.at (get_or prevs 0 0) (below.at 0 (omega (arith, two))))));
            used-room = H.used-room;
          }

          pub left-done : SplitTried h es vs p heads nexts bottom (Some after) es₂ vs₂ mp₂
          left-done = record {
            left = record {
              no = λ x. absurd cc;
              same-es = λ x. absurd cc;
              same-vs = λ x. absurd cc;
              same-p = λ x. absurd cc;
              yes = λ k x. let e : after ≡ k = cc in did ∙ ap some (sym removed-is ∙ ap (λ (held : Held). graph_of held es₂ vs₂ p) e);
              holds = λ k x. let e : after ≡ k = cc in subst (λ (held : Held). Holds held es₂ vs₂ p heads nexts) e holds-after;
            };
            numbered = λ _ _. record { room = omega (arith, low, D.numbered.room); is = λ v b. D.numbered.is v (omega (arith, low)) };
            kept = λ _ _ u b. D.kept u (omega (arith, low)) ∙ ap (λ (l : List ℕ). keeps l u) are;
          }
