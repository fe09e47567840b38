-- All chains absorbed. Assumes nothing.
use mathlib.Core.Path.{◌≡◌, refl, sym, ap, ◌∙◌, subst}
use mathlib.Core.Bool.{Bool, cond, ◌&&◌}
use mathlib.Core.List.{List, [], ◌∷◌, ◌++◌, map, Memᴰ}
use Prim.Native.Nat.{ℕ, zero, suc, ◌+◌, ◌*◌, ◌≤◌, ◌<◌}
use native.Mathlib.Omega.{arith}
use lib.ListN.{length, get_or, set, length-append}
use lib.Seq.{get_or-set_same, get_or-set_other}
use lib.Dec.{eqb, ltb}
use borrow.Author.Tests.{eqb-true, eqb-false}
use Rattle.defs.specs.Lists.{concat, up_from}
use Rattle.defs.specs.SeqGraph.{Graph, node_count, vertex_sequence, edges_from, edges_into, outgoing_nodes, incoming_nodes, out_degree, in_degree, is_reference_node}
use Rattle.defs.specs.Zip.{is_linear_chain_start, chain_goes_on, trace_linear_chain, last_of, linear_chain}
use Rattle.laws.proofs.Walks.{by_test}
use Rattle.laws.proofs.Counts.{total}
use Rattle.laws.proofs.Cycles.{distinct-length}
use Rattle.laws.proofs.Measures.{bytes-is}
use Rattle.laws.proofs.Sound.{Sound}
use Rattle.laws.proofs.Whole.{by_list}
use Rattle.all_chains.specs.AllChains.{LinearChain, chains_of, gone_of, from_after, chain_sequence, write_chains}
use Rattle.all_chains.proofs.Traces.{chained-below, whole-chained, linear-start, linear-whole, WholeChain}
use Rattle.all_chains.proofs.Zipped.{distinct-up_from}
use Rattle.all_chains.proofs.ChainsBelow as L
use Rattle.all_chains.proofs.ChainsBelow.{chains_below}
use Rattle.tabs.proofs.Tabs.{length-tab, tab-zero, get_or-tab}
use Rattle.store.specs.Store.{seq_in, seqs_in, graph_in, nums_in, Within}
use Rattle.compact.proofs.CompactLaws.{order-in}
use Rattle.index.specs.Index.{Indexed}
use Rattle.memory.specs.Memory.{graph_of, vertex_room, Room, Holds}
use Rattle.memory.specs.declared.Held.{Held}
use Rattle.memory.proofs.RoomLaws.{fit-bytes, held-vertices, room-kept}
use Rattle.zip_linear_chains.specs.declared.Absorbed.{Absorbed}
use Rattle.zip_linear_chains.specs.Loops.{EachItsOwn}
use Rattle.zip_linear_chains.specs.Absorb.{chain_in, Absorbable, ChainAbsorbed, NothingAbsorbed, AbsorbedAt, ChainsAbsorbed, AllAbsorbed}

-- ---- a chain is the same in graphs of the same edges and as many vertices

module _ (g g' : Graph) (e : g.edges ≡ g'.edges) where
  start-same : (x : ℕ) → is_linear_chain_start g x ≡ is_linear_chain_start g' x
  unfolding is_linear_chain_start out_degree in_degree incoming_nodes edges_from edges_into
  start-same x = ap (λ es. is_linear_chain_start record { k = 0; verts = []; edges = es } x) e

  next-same : (x : ℕ) → outgoing_nodes g x ≡ outgoing_nodes g' x
  unfolding outgoing_nodes edges_from
  next-same x = ap (λ es. outgoing_nodes record { k = 0; verts = []; edges = es } x) e

  goes_same : (x y : ℕ) → chain_goes_on g x y ≡ chain_goes_on g' x y
  unfolding chain_goes_on out_degree in_degree edges_from edges_into is_reference_node
  goes_same x y = ap (λ es. chain_goes_on record { k = 0; verts = []; edges = es } x y) e

  trace-same : (fuel x : ℕ) → trace_linear_chain fuel g x ≡ trace_linear_chain fuel g' x
  unfolding trace_linear_chain
  trace-same zero x = refl
  trace-same (suc fuel) x =
      let y = Rattle.defs.specs.Lists.head_or 0 (outgoing_nodes g x) in
      let y' = Rattle.defs.specs.Lists.head_or 0 (outgoing_nodes g' x) in
      let q : y ≡ y' = ap (Rattle.defs.specs.Lists.head_or 0) (next-same x) in
      let s : chain_goes_on g x y ≡ chain_goes_on g' x y' = goes_same x y ∙ ap (chain_goes_on g' x) q in
      by_test (chain_goes_on g x y)
      (λ t. rw (t, trace_linear_chain) (rw (sym s ∙ t, trace_linear_chain) (λ i. q i ∷ (trace-same fuel y ∙ ap (trace_linear_chain fuel g') q) i)))
      (λ t. rw (t, trace_linear_chain) (rw (sym s ∙ t, trace_linear_chain)))

  linear-same : node_count g ≡ node_count g' → (x : ℕ) → linear_chain g x ≡ linear_chain g' x
  unfolding linear_chain
  linear-same n x =
      let b : (ltb x (node_count g) && is_linear_chain_start g x) ≡ (ltb x (node_count g') && is_linear_chain_start g' x) = λ i. ltb x (n i) && start-same x i in
      by_test (ltb x (node_count g) && is_linear_chain_start g x)
      (λ t. rw (t, linear_chain) (rw (sym b ∙ t, linear_chain) (trace-same (node_count g) x ∙ ap (λ (f : ℕ). trace_linear_chain f g' x) n)))
      (λ t. rw (t, linear_chain) (rw (sym b ∙ t, linear_chain)))

map-members : {A B : Type 0} (f k : A → B) (l : List A) → ((x : A) → Memᴰ x l → f x ≡ k x) → map f l ≡ map k l
map-members f k [] h = refl
map-members f k (x ∷ l) h = λ i. h x (Memᴰ.head refl) i ∷ map-members f k l (λ y m. h y (Memᴰ.tail m)) i

-- ---- the loop

-- the bytes of the chains' sequences
abbrev chain_bytes : Graph → List LinearChain → ℕ
chain_bytes g cs = total (λ c. length (chain_sequence (vertex_sequence g) c)) cs

-- what the loop keeps: the chains that start below v are absorbed
pub record AbsorbedBelow (h : Held) (es vs₀ p₀ heads : List ℕ) (v : ℕ) (t : Absorbed) (vs p nodes froms : List ℕ) : Type 0 where
  pub absorbed : ChainsAbsorbed h es vs₀ p₀ heads (chains_below (graph_of h es vs₀ p₀) v) t vs p nodes froms
  pub at-is : t.at ≡ h.used + chain_bytes (graph_of h es vs₀ p₀) (chains_below (graph_of h es vs₀ p₀) v)

module _ {h : Held} {es vs₀ p₀ heads nexts : List ℕ} (H : Holds h es vs₀ p₀ heads nexts) where
  abbrev g : Graph
  g = graph_of h es vs₀ p₀

  abbrev sound : Sound g
  sound = H.fit.good.0

  order : node_count g ≡ h.n
  order = order-in h.k.0 h.n h.m es vs₀ p₀

  pub below-start : {nodes froms : List ℕ} → EachItsOwn h.n froms
      → AbsorbedBelow h es vs₀ p₀ heads 0 record { at = h.used; gone = 0; chains = 0 } vs₀ p₀ nodes froms
  unfolding write_chains gone_of from_after total
  below-start {nodes} {froms} O = record {
    absorbed = subst (λ (cs : List LinearChain). ChainsAbsorbed h es vs₀ p₀ heads cs record { at = h.used; gone = 0; chains = 0 } vs₀ p₀ nodes froms)
        (sym (L.below_none g)) record {
          verts = refl;
          within = H.within;
          at_high = omega (arith, H.used-room);
          gone-is = tab-zero (λ (i : ℕ). get_or nodes i 0);
          froms-is = O.at;
          chains-is = refl;
          same-vs = λ _. refl;
          same-p = λ _. refl;
        };
    at-is = none ∙ ap (λ (cs : List LinearChain). h.used + chain_bytes g cs) (sym (L.below_none g));
  }
    where
      none : h.used ≡ h.used + chain_bytes g []
      none = unfold total in omega arith

  module _ {v : ℕ} {t : Absorbed} {vs p nodes froms : List ℕ} (W : AbsorbedBelow h es vs₀ p₀ heads v t vs p nodes froms) (b : v < h.n) where
    chain-at : chain_in h.m h.n es vs p v ≡ linear_chain g v
    chain-at = linear-same (graph_in 0 h.n h.m es vs p) g refl (order-in 0 h.n h.m es vs p ∙ sym order) v

    module _ (y : ℕ) (ys : List ℕ) (q : linear_chain g v ≡ y ∷ ys) where
      below : (u : ℕ) → Memᴰ u (v ∷ y ∷ ys) → u < h.n
      below u m =
          let a = linear-start g v y ys q in
          let w : WholeChain g v (y ∷ ys) = subst (WholeChain g v) q (linear-whole g sound v a.0 a.1) in
          omega (arith, chained-below g sound v (y ∷ ys) a.0 (whole-chained g v (y ∷ ys) w) u m, order)

      seq-now : (u : ℕ) → Memᴰ u (v ∷ y ∷ ys) → seq_in vs p u ≡ vertex_sequence g u
      seq-now u m = sym (get_or-tab h.n (seq_in vs p) u [] (below u m))
          ∙ (ap (λ (l : List (List ℕ)). get_or l u []) W.absorbed.verts ∙ L.sequence-now g sound v y ys q u m)

      sequences-same : concat (map (seq_in vs p) (v ∷ y ∷ ys)) ≡ concat (map (vertex_sequence g) (v ∷ y ∷ ys))
      sequences-same = ap concat (map-members (seq_in vs p) (vertex_sequence g) (v ∷ y ∷ ys) seq-now)

      fits : t.at + length (concat (map (seq_in vs p) (v ∷ y ∷ ys))) ≤ 2 * vertex_room heads
      fits = omega (
        arith,
        W.at-is,
        ap length sequences-same,
        L.bytes-add g sound v y ys q,
        L.bytes_most g sound (v + 1),
        bytes-is g.verts,
        fit-bytes H.fit,
        H.used-room,
      )

      gone-fits : t.gone + length (y ∷ ys) ≤ h.n
      gone-fits = omega (
        arith,
        ap length W.absorbed.gone-is,
        length-tab t.gone (λ (i : ℕ). get_or nodes i 0),
        ap length (L.gone-add g sound v y ys q),
        length-append (gone_of (chains_below g v)) (y ∷ ys),
        distinct-length (node_count g) (gone_of (chains_below g (v + 1)))
            (L.gone-distinct g sound (up_from 0 (v + 1)) (distinct-up_from 0 (v + 1))) (L.gone-below g sound (up_from 0 (v + 1))),
        order,
      )

    few : t.chains ≤ h.n
    few = omega (
      arith,
      W.absorbed.chains-is,
      L.chains-less g sound (up_from 0 v),
      distinct-length (node_count g) (gone_of (chains_below g v)) (L.gone-distinct g sound (up_from 0 v) (distinct-up_from 0 v)) (L.gone-below g sound (up_from 0 v)),
      order,
    )

    pub below-ready : {rest : List ℕ} → Room es vs₀ p₀ heads nexts nodes rest → Indexed h.m h.n es heads nexts → length vs
        ≡ length vs₀ → length p ≡ length p₀ → h.n ≤ length froms
        → Absorbable h.m h.n es vs p heads nexts nodes rest froms t v
    below-ready R I lv lp ll = record {
      indexed = I;
      below = b;
      small = omega (arith, held-vertices H, R.vertices-edges, R.small);
      nodes-room = omega (arith, held-vertices H, R.vertices-edges, R.nodes-room);
      rest-room = omega (arith, held-vertices H, R.map-room);
      vs-room = omega (arith, held-vertices H, R.vs-room, lv);
      froms-room = ll;
      within = W.absorbed.within;
      p-room = omega (arith, R.p-room, lp);
      p-small = omega (arith, R.vertices-edges, R.small);
      at_high = W.absorbed.at_high;
      fits = λ y ys q. fits y ys (sym chain-at ∙ q);
      nodes-fit = λ y ys q. gone-fits y ys (sym chain-at ∙ q);
      countable = omega (arith, few, held-vertices H, R.vertices-edges, R.small, b);
    }

    pub below_more : {r : Absorbed} {vs' p' nodes' froms' : List ℕ}
        → AbsorbedAt h.m h.n es vs p nodes froms t v r vs' p' nodes' froms' → h.n ≤ length froms
        → AbsorbedBelow h es vs₀ p₀ heads (v + 1) r vs' p' nodes' froms'
    below_more {r} {vs'} {p'} {nodes'} {froms'} K ll = by_list (linear_chain g v)
        (λ q. none_more (L.below-skip g v q) (K.none (chain-at ∙ q)))
        (λ y ys q. some_more y ys q (K.some y ys (chain-at ∙ q)))
      where
        none_more : chains_below g (v + 1) ≡ chains_below g v → NothingAbsorbed vs p nodes froms t r vs' p' nodes' froms'
            → AbsorbedBelow h es vs₀ p₀ heads (v + 1) r vs' p' nodes' froms'
        none_more e N = record {
          absorbed = record {
            verts = (λ i. seqs_in h.n (N.same-vs i) (N.same-p i))
                ∙ (W.absorbed.verts ∙ ap (λ (cs : List LinearChain). write_chains (vertex_sequence g) cs g.verts) (sym e));
            within = within-still;
            at_high = omega (arith, ap (λ (x : Absorbed). x.at) N.same, W.absorbed.at_high);
            gone-is = (λ i. nums_in (N.same i).gone (N.same_nodes i)) ∙ (W.absorbed.gone-is ∙ ap gone_of (sym e));
            froms-is = λ u c. ap (λ (l : List ℕ). get_or l u 0) N.same-froms
                ∙ (W.absorbed.froms-is u c ∙ ap (λ (cs : List LinearChain). from_after cs u) (sym e));
            chains-is = ap (λ (x : Absorbed). x.chains) N.same ∙ (W.absorbed.chains-is ∙ ap length (sym e));
            same-vs = λ z. N.same-vs ∙ W.absorbed.same-vs (sym e ∙ z);
            same-p = λ z. N.same-p ∙ W.absorbed.same-p (sym e ∙ z);
          };
          at-is = ap (λ (x : Absorbed). x.at) N.same ∙ (W.at-is ∙ ap (λ (cs : List LinearChain). h.used + chain_bytes g cs) (sym e));
        }
          where
            within-still : Within r.at h.n vs'
            within-still = record {
              at = λ u c. omega (
                arith,
                W.absorbed.within.at u c,
                ap (λ (x : Absorbed). x.at) N.same,
                ap (λ (l : List ℕ). get_or l (2 * u) 0) N.same-vs,
                ap (λ (l : List ℕ). get_or l (2 * u + 1) 0) N.same-vs,
              );
            }

        some_more : (y : ℕ) (ys : List ℕ) → linear_chain g v ≡ y ∷ ys → ChainAbsorbed h.n vs p nodes froms t v y ys r vs' p' nodes' froms'
            → AbsorbedBelow h es vs₀ p₀ heads (v + 1) r vs' p' nodes' froms'
        some_more y ys q S = record {
          absorbed = record {
            verts = S.verts ∙ ((λ i. set (W.absorbed.verts i) v (sequences-same y ys q i)) ∙ sym (L.write-add g sound v y ys q));
            within = S.within;
            at_high = omega (arith, S.at-is, fits y ys q);
            gone-is = S.gone-is ∙ (ap (λ (l : List ℕ). l ++ (y ∷ ys)) W.absorbed.gone-is ∙ sym (L.gone-add g sound v y ys q));
            froms-is = λ u c. ap (λ (l : List ℕ). get_or l u 0) S.handed ∙ (handed u c ∙ sym (L.from_after-add g sound v y ys q u));
            chains-is = S.chains-is ∙ (ap (λ (x : ℕ). x + 1) W.absorbed.chains-is ∙ sym (L.count_add g sound v y ys q));
            same-vs = λ z. absurd (one_more z);
            same-p = λ z. absurd (one_more z);
          };
          at-is = omega (arith, S.at-is, W.at-is, ap length (sequences-same y ys q), L.bytes-add g sound v y ys q);
        }
          where
            one_more : chains_below g (v + 1) ≡ [] → ⊥
            one_more z = omega (arith, ap length z, L.count_add g sound v y ys q)

            last-in : last_of v (y ∷ ys) < h.n
            last-in = below y ys q (last_of v (y ∷ ys)) (Rattle.all_chains.proofs.OnePass.last_mem v (y ∷ ys))

            handed : (u : ℕ) → u < h.n → get_or (set froms (last_of v (y ∷ ys)) v) u 0 ≡ cond (eqb u (last_of v (y ∷ ys))) v (from_after (chains_below g v) u)
            handed u c = by_test (eqb u (last_of v (y ∷ ys)))
                (λ z. ap (λ (x : ℕ). get_or (set froms (last_of v (y ∷ ys)) v) x 0) (eqb-true _ _ z)
                ∙ (get_or-set_same froms (last_of v (y ∷ ys)) v 0 (omega (arith, last-in, ll))
                ∙ sym (ap (λ (x : Bool). cond x v (from_after (chains_below g v) u)) z)))
                (λ z. get_or-set_other froms (last_of v (y ∷ ys)) u v 0 (eqb-false _ _ z)
                ∙ (W.absorbed.froms-is u c ∙ sym (ap (λ (x : Bool). cond x v (from_after (chains_below g v) u)) z)))

  pub below_end : {v : ℕ} {t : Absorbed} {vs p nodes froms : List ℕ} → AbsorbedBelow h es vs₀ p₀ heads v t vs p nodes froms → v ≡ h.n
      → AllAbsorbed h es vs₀ p₀ heads t vs p nodes froms
  unfolding chains_of
  below_end {v} {t} {vs} {p} {nodes} {froms} W e = record {
    absorbed =
        subst (λ (x : ℕ). ChainsAbsorbed h es vs₀ p₀ heads (chains_below g x) t vs p nodes froms) (e ∙ sym order) W.absorbed;
  }

-- ---- the invariant, with the lengths

pub record Absorbing (h : Held) (es vs₀ p₀ heads nodes₀ rest₀ froms₀ : List ℕ) (v : ℕ) (t : Absorbed) (vs p nodes rest froms : List ℕ) : Type 0 where
  pub high : v ≤ h.n
  pub below : AbsorbedBelow h es vs₀ p₀ heads v t vs p nodes froms
  pub lv : length vs ≡ length vs₀
  pub lp : length p ≡ length p₀
  pub ln : length nodes ≡ length nodes₀
  pub lm : length rest ≡ length rest₀
  pub ll : length froms ≡ length froms₀

module _ {h : Held} {es vs₀ p₀ heads nexts nodes₀ rest₀ froms₀ : List ℕ} (R : Room es vs₀ p₀ heads nexts nodes₀ rest₀) (H : Holds h es vs₀ p₀ heads nexts)
    (I : Indexed h.m h.n es heads nexts) (lr : h.n ≤ length froms₀) (O : EachItsOwn h.n froms₀) where
  pub loop-start : Absorbing h es vs₀ p₀ heads nodes₀ rest₀ froms₀ 0 record { at = h.used; gone = 0; chains = 0 } vs₀ p₀ nodes₀ rest₀ froms₀
  loop-start = record { high = omega arith; below = below-start H O; lv = refl; lp = refl; ln = refl; lm = refl; ll = refl }

  pub loop-small : h.n < 4294967296
  loop-small = omega (arith, held-vertices H, R.vertices-edges, R.small)

  module _ {v : ℕ} {t : Absorbed} {vs p nodes rest froms : List ℕ} (L : Absorbing h es vs₀ p₀ heads nodes₀ rest₀ froms₀ v t vs p nodes rest froms) where
    pub loop-ready : v < h.n → Absorbable h.m h.n es vs p heads nexts nodes rest froms t v
    loop-ready b = below-ready H L.below b (room-kept R refl refl refl refl refl L.ln L.lm) I L.lv L.lp (omega (arith, L.ll, lr))

    pub loop-more : v < h.n → {r : Absorbed} {vs' p' nodes' rest' froms' : List ℕ} → AbsorbedAt h.m h.n es vs p nodes froms t v r vs' p' nodes' froms'
        → length vs' ≡ length vs → length p' ≡ length p → length nodes' ≡ length nodes → length rest' ≡ length rest → length froms' ≡ length froms
        → Absorbing h es vs₀ p₀ heads nodes₀ rest₀ froms₀ (v + 1) r vs' p' nodes' rest' froms'
    loop-more b K a d e f k = record {
      high = omega arith;
      below = below_more H L.below b K (omega (arith, L.ll, lr));
      lv = a ∙ L.lv;
      lp = d ∙ L.lp;
      ln = e ∙ L.ln;
      lm = f ∙ L.lm;
      ll = k ∙ L.ll;
    }

    pub loop-end : h.n ≤ v → AllAbsorbed h es vs₀ p₀ heads t vs p nodes froms
    loop-end b = below_end H L.below (omega (arith, L.high))
