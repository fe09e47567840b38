-- The whole zip makes `zip_linear_chains`. Assumes nothing.
use mathlib.Core.Path.{◌≡◌, refl, sym, ap, ◌∙◌, subst}
use mathlib.Core.List.{List, [], Memᴰ}
use Prim.Native.Nat.{ℕ, ◌+◌, ◌*◌, ◌≤◌, ◌<◌}
use native.Mathlib.Omega.{arith}
use lib.ListN.{length, get_or}
use Rattle.defs.specs.Lists.{up_from}
use Rattle.defs.specs.SeqGraph.{Graph, node_count, remove_vertices_by_id}
use Rattle.laws.proofs.Nets.{Bounded}
use Rattle.laws.proofs.Measures.{Tame}
use Rattle.laws.proofs.Bound.{Paid}
use Rattle.laws.proofs.Sound.{Sound}
use Rattle.laws.proofs.Whole.{by_list}
use Rattle.all_chains.specs.AllChains.{LinearChain, chains_of, gone_of, absorb_chains, merge_linear_chains, zip_all}
use Rattle.all_chains.proofs.Zipped.{zip-all-is, zip-all-paid, zip-all-none}
use Rattle.all_chains.proofs.ChainsBelow as L
use Rattle.tabs.proofs.Tabs.{length-tab}
use Rattle.tabs.proofs.ListTabs.{mem-tab}
use Rattle.store.specs.Store.{edges_in, graph_in, nums_in, EndsBelow, Within}
use Rattle.compact.specs.Compact.{Compactable, Below, Removed}
use Rattle.compact.specs.declared.Counts.{Counts}
use Rattle.compact.proofs.CompactLaws.{order-in, mem-ends}
use Rattle.index.specs.Index.{Indexed, Indexable}
use Rattle.pool.specs.Pool.{bytes_in, Packable, Packed}
use Rattle.pool.proofs.PoolLaws.{packed-seqs, packed-within}
use Rattle.memory.specs.Memory.{graph_of, work_of, vertex_room, Fit, Holds}
use Rattle.memory.specs.declared.Held.{Held}
use Rattle.memory.specs.declared.Work.{Work}
use Rattle.memory.proofs.RoomLaws.{fit-bytes, fit-tame, held-vertices, held-edges, held-ends, room-kept, holds_kept}
use Rattle.merge_linear_chain.proofs.JoinLaws.{held_bytes}
use Rattle.zip_linear_chains.specs.declared.Absorbed.{Absorbed}
use Rattle.zip_linear_chains.specs.Loops.{AllEdgesMoved}
use Rattle.zip_linear_chains.specs.Absorb.{AllAbsorbed}
use Rattle.zip_linear_chains.specs.Zips.{ReadyToZip, ZippedAll}

module _ {w : Work} {es vs p heads nexts nodes mp : List ℕ} (R : ReadyToZip w es vs p heads nexts nodes mp) where
  abbrev h : Held
  h = w.held

  abbrev g : Graph
  g = graph_of w.held es vs p

  abbrev sound : Sound g
  sound = R.holds.fit.good.0

  order : node_count g ≡ w.held.n
  order = order-in w.held.k.0 w.held.n w.held.m es vs p

  pub n_room : w.held.n ≤ vertex_room heads
  n_room = held-vertices R.holds

  pub n-small : w.held.n < 4294967296
  n-small = omega (arith, n_room, R.room.vertices-edges, R.room.small)

  -- no chain: vertices and bytes are as they were
  pub zip-none : {t : Absorbed} {vs₁ p₁ nodes₁ froms₁ mp₁ : List ℕ} → AllAbsorbed w.held es vs p heads t vs₁ p₁ nodes₁ froms₁ → t.chains ≡ 0
      → length nodes₁ ≡ length nodes → length mp₁ ≡ length mp → ZippedAll w es vs p w es vs₁ p₁ heads nexts nodes₁ mp₁
  zip-none {t} {vs₁} {p₁} A z ln lm = record {
    ready = record {
      room = room-kept R.room refl (ap length same-vs) (ap length same-p) refl refl ln lm;
      holds = subst (λ (x : List ℕ). Holds w.held es x p₁ heads nexts) (sym same-vs) (subst (λ (x : List ℕ).
          Holds w.held es vs x heads nexts) (sym same-p) R.holds);
      indexed = R.indexed;
      countable = R.countable;
    };
    is = (λ i. work_of w es (same-vs i) (same-p i)) ∙ (sym (zip-all-none (work_of w es vs p) none) ∙ zip-all-is (work_of w es vs p) sound);
    less = omega arith;
  }
    where
      none : chains_of (graph_of w.held es vs p) ≡ []
      none = by_list (chains_of (graph_of w.held es vs p)) (λ e. e) (λ y ys e. absurd (omega (arith, z, A.absorbed.chains-is, ap length e)))

      same-vs : vs₁ ≡ vs
      same-vs = A.absorbed.same-vs none

      same-p : p₁ ≡ p
      same-p = A.absorbed.same-p none

  module _ {t : Absorbed} {vs₁ p₁ nodes₁ froms₁ : List ℕ} (A : AllAbsorbed w.held es vs p heads t vs₁ p₁ nodes₁ froms₁)
      (lv : length vs₁ ≡ length vs) (lp : length p₁ ≡ length p) (ln : length nodes₁ ≡ length nodes) {es₁ : List ℕ} (E :
      AllEdgesMoved w.held.m es froms₁ es₁) (le : length es₁ ≡ length es) where
    abbrev cs : List LinearChain
    cs = chains_of (graph_of w.held es vs p)

    moved-is : graph_in w.held.k.0 w.held.n w.held.m es₁ vs₁ p₁ ≡ absorb_chains cs g
    unfolding absorb_chains
    moved-is = λ i. record {
      k = w.held.k.0;
      verts = A.absorbed.verts i;
      edges = (E.is ∙ L.move-by g sound cs (λ (u : ℕ). get_or froms₁ u 0) (λ u b. A.absorbed.froms-is u (omega (arith, b, order)))) i;
    }

    ends-moved : EndsBelow w.held.n w.held.m es₁
    ends-moved = mem-ends w.held.n w.held.m es₁ (λ e m.
        let b = subst (λ (x : Graph). Bounded x) (sym moved-is) (unfold chains_of in L.moved-bounded g sound (up_from 0 (node_count g))) e m in (
          omega (arith, b.0, order-in w.held.k.0 w.held.n w.held.m es₁ vs₁ p₁),
          omega (arith, b.1, order-in w.held.k.0 w.held.n w.held.m es₁ vs₁ p₁),
        ))

    gone-most : t.gone ≤ w.held.n
    gone-most = omega (
      arith,
      ap length A.absorbed.gone-is,
      length-tab t.gone (λ (i : ℕ). get_or nodes₁ i 0),
      L.joined-order g sound,
      order,
    )

    pub zip-compactable : {mp₁ : List ℕ} → length mp₁ ≡ length mp → Compactable w.held.n w.held.m es₁ vs₁ mp₁
    zip-compactable lm = record {
      es-room = omega (arith, le, held-edges R.holds, R.room.es-room);
      vs-room = omega (arith, lv, n_room, R.room.vs-room);
      mp-room = omega (arith, lm, n_room, R.room.map-room);
      small = n-small;
      ends = ends-moved;
    }

    pub zip-below : Below nodes₁ t.gone w.held.n
    zip-below = record {
      room = omega (arith, ln, gone-most, n_room, R.room.vertices-edges, R.room.nodes-room);
      at = λ k b. omega (
        arith,
        order,
        gone_old (get_or nodes₁ k 0)
            (subst (λ (l : List ℕ). Memᴰ (get_or nodes₁ k 0) l) A.absorbed.gone-is
            (mem-tab t.gone (λ (i : ℕ). get_or nodes₁ i 0) k b)),
      );
    }
      where
        gone_old : (u : ℕ) → Memᴰ u (gone_of (chains_of (graph_of w.held es vs p))) → u < node_count (graph_of w.held es vs p)
        gone_old u m = L.gone-below g sound (up_from 0 (node_count g)) u (unfold chains_of in m)

    module _ {r : Counts} {es₂ vs₂ mp₂ : List ℕ} (D : Removed w.held.n w.held.m es₁ vs₁ (nums_in t.gone nodes₁) r es₂ vs₂ mp₂) where
      removed-is : graph_in w.held.k.0 r.n r.m es₂ vs₂ p₁ ≡ merge_linear_chains cs g
      unfolding merge_linear_chains
      removed-is = D.is w.held.k.0 p₁ ∙ (λ i. remove_vertices_by_id (A.absorbed.gone-is i) (moved-is i))

      paid : Paid node_count (work_of w es vs p) (zip_all (work_of w es vs p))
      paid = zip-all-paid (work_of w es vs p) R.holds.fit.good

      tame : Tame g (merge_linear_chains cs g)
      tame = unfold zip_all in paid.tame

      fit-rest : Fit (graph_in w.held.k.0 r.n r.m es₂ vs₂ p₁) heads nexts
      fit-rest = subst (λ (x : Graph). Fit x heads nexts) (sym removed-is) (fit-tame R.holds.fit tame)

      within-rest : Within (2 * vertex_room heads) r.n vs₂
      within-rest = D.within (2 * vertex_room heads) (record { at = λ v b. omega (arith, A.absorbed.within.at v b, A.absorbed.at_high) })

      pool-rest : Within (length p₁) r.n vs₂
      pool-rest = record { at = λ v b. omega (arith, within-rest.at v b, R.room.p-room, lp) }

      bytes_rest : bytes_in r.n vs₂ ≤ vertex_room heads
      bytes_rest = omega (arith, fit-bytes fit-rest, held_bytes r.n vs₂ p₁ pool-rest)

      pub zip-packable : {base : ℕ} → base ≡ 2 * vertex_room heads → length vs₂ ≡ length vs₁ → Packable r.n vs₂ p₁ base
      zip-packable e b = record {
        vs-room = omega (arith, b, lv, D.most-n, n_room, R.room.vs-room);
        within = subst (λ (x : ℕ). Within x r.n vs₂) (sym e) within-rest;
        room = omega (arith, e, bytes_rest, R.room.p-room, lp);
        front = omega (arith, e, bytes_rest);
        small = omega (arith, e, R.room.vertices-edges, R.room.small);
      }

      module _ {used : ℕ} {vs₃ p₃ : List ℕ} (K : Packed 0 r.n vs₂ p₁ used vs₃ p₃) (b : length p₃ ≡ length p₁) where
        abbrev held₃ : Held
        held₃ = record { k = w.held.k; n = r.n; m = r.m; used = used }

        same : graph_of held₃ es₂ vs₃ p₃ ≡ graph_in w.held.k.0 r.n r.m es₂ vs₂ p₁
        same = let s = packed-seqs K pool-rest (omega (arith, K.used-is, bytes_rest, R.room.p-room, lp, b)) in λ i.
            record { k = w.held.k.0; verts = s i; edges = edges_in r.m es₂ }

        holds-rest : Holds held₃ es₂ vs₃ p₃ heads nexts
        holds-rest = record {
          fit = subst (λ (x : Graph). Fit x heads nexts) (sym same) fit-rest;
          within = packed-within K pool-rest (omega (arith, K.used-is, bytes_rest, R.room.p-room, lp, b));
          used-room = omega (arith, K.used-is, bytes_rest);
        }

        pub zip-indexable : length es₂ ≡ length es₁ → Indexable r.m r.n es₂ heads nexts
        zip-indexable l = record {
          room = omega (arith, held-edges holds-rest, R.room.es-room, le, l);
          heads-room = omega (arith, held-vertices holds-rest);
          nexts-room = omega (arith, held-edges holds-rest);
          small = omega (arith, held-edges holds-rest, R.room.small);
          ends = held-ends holds-rest;
        }

        joined-n : t.chains + r.n ≤ w.held.n
        joined-n = omega (
          arith,
          A.absorbed.chains-is,
          L.joined-less g sound,
          order-in w.held.k.0 r.n r.m es₂ vs₂ p₁,
          ap node_count removed-is,
          order,
        )

        pub zip-countable : w.rewrites + t.chains < 4294967296
        zip-countable = omega (arith, R.countable, joined-n)

        pub zip-zipped : {heads₁ nexts₁ mp₁ : List ℕ} → Indexed r.m r.n es₂ heads₁ nexts₁ → length heads₁ ≡ length heads → length nexts₁ ≡ length nexts
            → length es₂ ≡ length es₁ → length vs₃ ≡ length vs₂ → length vs₂ ≡ length vs₁ → length mp₁ ≡ length mp
            → ZippedAll w es vs p record {
              held = record { k = w.held.k; n = r.n; m = r.m; used = used };
              rewrites = w.rewrites
                  + t.chains;
            } es₂ vs₃ p₃ heads₁ nexts₁ nodes₁ mp₁
        zip-zipped I lh lx l₂ l₃ l₄ lm = record {
          ready = record {
            room = room-kept R.room (l₂ ∙ le) (l₃ ∙ (l₄ ∙ lv)) (b ∙ lp) lh lx ln lm;
            holds = holds_kept holds-rest lh lx;
            indexed = I;
            countable = omega (arith, R.countable, joined-n);
          };
          is = (λ i. record { graph = (same ∙ removed-is) i; rewrites = count i }) ∙ (unfold zip_all in zip-all-is (work_of w es vs p) sound);
          less = omega (arith, joined-n);
        }
          where
            count : w.rewrites + t.chains ≡ length cs + w.rewrites
            count = omega (arith, A.absorbed.chains-is)
