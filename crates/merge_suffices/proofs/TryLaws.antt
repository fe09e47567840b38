-- The predecessors that were collected, and what a try leaves. Assumes nothing.
use mathlib.Core.Path.{◌≡◌, refl, sym, ap, ◌∙◌, subst}
use mathlib.Core.Bool.{Bool, true, false}
use mathlib.Core.Option.{some}
use mathlib.Core.List.{List, map, Memᴰ}
use Prim.Native.Nat.{ℕ, ◌*◌, ◌≤◌, ◌<◌}
use native.Mathlib.Nat.{add-zero}
use native.Mathlib.Omega.{arith}
use lib.ListN.{length, get_or}
use Rattle.defs.specs.Lists.{given}
use Rattle.defs.specs.SeqGraph.{Graph, incoming_nodes}
use Rattle.defs.specs.Rewrites.{is_merge, merges_suffices, try_merge_common_suffices}
use Rattle.laws.proofs.Edges.{of-mem-ins}
use Rattle.tabs.proofs.ListTabs.{mem-tab}
use Rattle.store.specs.Store.{nums_in}
use Rattle.compact.specs.Compact.{Below}
use Rattle.compact.proofs.CompactLaws.{order-in}
use Rattle.index.specs.Index.{edge_end, incident_edges, Indexed, Collected}
use Rattle.index.proofs.IndexLaws.{incoming-is}
use Rattle.std.specs.Prelude.{Some, None}
use Rattle.memory.specs.Memory.{graph_of, Room, Holds, Left}
use Rattle.memory.specs.declared.Held.{Held}
use Rattle.memory.proofs.RoomLaws.{held-vertices, held-edges}
use Rattle.merge_suffices.specs.Merge.{MergeTestable, Merges, Mergeable, Merged}

module _ {h : Held} {es vs p heads nexts nodes mp : List ℕ} (R : Room es vs p heads nexts nodes mp) (H : Holds h es vs p heads nexts) where
  abbrev g : Graph
  g = graph_of h es vs p

  pub testable : Indexed h.m h.n es heads nexts → MergeTestable h.n h.m es vs p heads nexts
  testable I = record {
    indexed = I;
    vs-room = omega (arith, held-vertices H, R.vs-room);
    pool = record { at = λ v b. omega (arith, H.within.at v b, H.used-room, R.p-room) };
  }

  pub collect-room : h.m ≤ length nodes
  collect-room = omega (arith, held-edges H, R.nodes-room)

  module _ {bottom c : ℕ} {nodes' : List ℕ} (C : Collected 1 h.m es bottom c nodes') (q : length nodes' ≡ length nodes) where
    pub prevs-are : nums_in c nodes' ≡ incoming_nodes g bottom
    prevs-are = C.is ∙ (λ i. map (λ (e : ℕ). get_or es (add-zero (4 * e) i) 0) (incident_edges (edge_end 1 es) h.m bottom))
        ∙ sym (incoming-is h.k.0 h.n h.m es vs p bottom)

    pub prevs-below : Below nodes' c h.n
    prevs-below = record {
      room = omega (arith, C.most, collect-room, q);
      at = λ k b. let z = of-mem-ins g (get_or nodes' k 0) bottom
          (subst (λ (l : List ℕ). Memᴰ (get_or nodes' k 0) l) prevs-are (mem-tab c (λ (i : ℕ). get_or nodes' i 0) k b)) in
          omega (arith, (H.fit.good.0.bounded z.0 z.1).0, z.2, order-in h.k.0 h.n h.m es vs p);
    }

    module _ {t : Bool} (T : Merges h.n h.m es vs p nodes' c t) where
      answer : t ≡ is_merge g (incoming_nodes g bottom)
      answer = T.is h.k.0 ∙ ap (is_merge g) prevs-are

      pub mergeable : bottom < h.n → t ≡ true → Mergeable h es vs p nodes' c bottom
      mergeable b y = record { below = b; prevs = prevs-below; are = prevs-are; ok = sym answer ∙ y }

      pub left_not : t ≡ false → Left (try_merge_common_suffices g bottom) es vs p heads nexts None es vs p
      unfolding try_merge_common_suffices merges_suffices given
      left_not y = let z = sym answer ∙ y in record {
        no = λ _. rw z;
        same-es = λ _. refl;
        same-vs = λ _. refl;
        same-p = λ _. refl;
        yes = λ k x. absurd cc;
        holds = λ k x. absurd cc;
      }

      pub left-done : {r : Held} {es' vs' p' : List ℕ} → t ≡ true → Merged h es vs p heads nexts bottom r es' vs' p'
          → Left (try_merge_common_suffices g bottom) es vs p heads nexts (Some r) es' vs' p'
      unfolding try_merge_common_suffices merges_suffices given
      left-done {r} {es'} {vs'} {p'} y D = let z = sym answer ∙ y in record {
        no = λ x. absurd cc;
        same-es = λ x. absurd cc;
        same-vs = λ x. absurd cc;
        same-p = λ x. absurd cc;
        yes = λ k x. let e : r ≡ k = cc in rw z (ap some (sym D.is ∙ ap (λ (held : Held). graph_of held es' vs' p') e));
        holds = λ k x. let e : r ≡ k = cc in subst (λ (held : Held). Holds held es' vs' p' heads nexts) e D.holds;
      }
