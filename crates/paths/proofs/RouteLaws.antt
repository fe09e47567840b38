-- A path of a graph without cycles visits no vertex twice, so that its bytes are at most those of the graph. Assumes nothing.
use mathlib.Core.Path.{◌≡◌, sym, ap, ◌∙◌}
use mathlib.Core.Bool.{true, ◌&&◌}
use mathlib.Core.Logic.{⊎_elim}
use mathlib.Core.List.Memᴰ
use mathlib.Core.List.{List, [], ◌∷◌, Memᴰ}
use Prim.Native.Nat.{ℕ, ◌+◌, ◌*◌, ◌≤◌, ◌<◌}
use native.Mathlib.Omega.{arith}
use lib.ListN.{length, get_or}
use lib.Dec.{eqb, ltb}
use borrow.Author.Tests.{eqb-true, ltb-true}
use Rattle.defs.specs.Lists.{any_of, concat, sum}
use Rattle.defs.specs.SeqGraph.{Graph, node_count, vertex_sequence, has_ends}
use Rattle.defs.specs.Strings.{HasEdge, IsPath, spelled}
use Rattle.defs.specs.Paths.{is_edge_path, is_path_of, edge_ends}
use Rattle.laws.proofs.ListLaws.{and_split}
use Rattle.laws.proofs.Nets.{Ranks, Bounded}
use Rattle.laws.proofs.Sound.{Sound}
use Rattle.laws.proofs.Counts.{total, total_kept, Distinct}
use Rattle.laws.proofs.Measures.{bytes-is}
use Rattle.laws.proofs.Cycles.{any_of-true, distinct-length}
use Rattle.laws.proofs.Edges.{joins-ends}
use Rattle.tabs.proofs.Tabs.{get_or-tab, tab-ext}
use Rattle.tabs.proofs.SumTabs.{map-tab, total-sum}
use Rattle.tabs.proofs.ListTabs.{mem-tab}
use Rattle.store.specs.Store.{seq_in, nums_in}
use Rattle.store.proofs.VertexLaws.{part-long}
use Rattle.compact.proofs.CompactLaws.{order-in}
use Rattle.memory.specs.Memory.{graph_of}
use Rattle.memory.specs.declared.Held.{Held}
use Rattle.spell.specs.Spell.{spelled_in, Listed}
use Rattle.store.specs.Store.{nodes_length}
use Rattle.paths.specs.Paths.{Spellable}

-- ---- a path rises

module _ (g : Graph) (r : ℕ → ℕ) (ranks : Ranks g r) where
  path-rises : (u : ℕ) (ws : List ℕ) → IsPath g u ws → (w : ℕ) → Memᴰ w ws → r u < r w
  path-rises u [] h w m = absurd (Memᴰ.not-nil m)
  path-rises u (x ∷ ws) (b, e, h) w m = ⊎_elim
      (λ (q : w ≡ x). rw q (ranks u x e))
      (λ k. omega (arith, ranks u x e, path-rises x ws h w k))
      (Memᴰ.cases_cons m)

  pub path-distinct : (u : ℕ) (ws : List ℕ) → IsPath g u ws → Distinct (u ∷ ws)
  path-distinct u [] h = (λ m. Memᴰ.not-nil m, tt)
  path-distinct u (x ∷ ws) (b, e, h) = (λ m. omega (arith, path-rises u (x ∷ ws) (b, e, h) u m), path-distinct x ws h)

pub path-below : (g : Graph) (u : ℕ) (ws : List ℕ) → IsPath g u ws → (w : ℕ) → Memᴰ w (u ∷ ws) → w < node_count g
path-below g u [] h w m = ⊎_elim (λ (q : w ≡ u). rw q h) (λ k. absurd (Memᴰ.not-nil k)) (Memᴰ.cases_cons m)
path-below g u (x ∷ ws) (b, e, h) w m = ⊎_elim (λ (q : w ≡ u). rw q b) (λ k. path-below g x ws h w k) (Memᴰ.cases_cons m)

pub path-short : (g : Graph) → Sound g → (u : ℕ) (ws : List ℕ) → IsPath g u ws → length (u ∷ ws) ≤ node_count g
path-short g s u ws h = distinct-length (node_count g) (u ∷ ws) (path-distinct g s.rank s.ranks u ws h) (path-below g u ws h)

-- ---- a list of edges

ends-edge : (g : Graph) (a b v : ℕ) → eqb a v ≡ true → any_of (has_ends a b) g.edges ≡ true → HasEdge g v b
ends-edge g a b v q t =
    let x = any_of-true (has_ends a b) g.edges t in
    let y = joins-ends a b x.0 x.2 in
    (x.0, x.1, y.0 ∙ eqb-true a v q, y.1)

edges-path : (g : Graph) → Bounded g → (l : List ℕ) (v : ℕ) → v < node_count g → is_edge_path g v l ≡ true → IsPath g v (edge_ends l)
unfolding is_edge_path edge_ends
edges-path g bounded [] v h t = h
edges-path g bounded (a ∷ []) v h t = h
edges-path g bounded (a ∷ b ∷ l) v h t =
    let s = and_split (eqb a v) (any_of (has_ends a b) g.edges && is_edge_path g b l) t in
    let z = and_split (any_of (has_ends a b) g.edges) (is_edge_path g b l) s.1 in
    let e = ends-edge g a b v s.0 z.0 in
    (h, e, edges-path g bounded l b (rw e.3 at (bounded e.0 e.1).1) z.1)

pub path-of : (g : Graph) → Bounded g → (start : ℕ) (l : List ℕ) → is_path_of g start l ≡ true → IsPath g start (edge_ends l)
unfolding is_path_of
path-of g bounded start l t =
    let s = and_split (ltb start (node_count g)) (is_edge_path g start l) t in
    edges-path g bounded l start (ltb-true start (node_count g) s.0) s.1

-- ---- its bytes

-- the first c of the nodes are a path of g
pub record Route (g : Graph) (nodes : List ℕ) (c : ℕ) : Type 0 where
  pub first : ℕ
  pub others : List ℕ
  pub path : IsPath g first others
  pub is : nums_in c nodes ≡ first ∷ others
  pub room : c ≤ length nodes

module _ {h : Held} {es vs p nodes₀ nodes : List ℕ} {c : ℕ} (S : Spellable h es vs p nodes₀) (R : Route (graph_of h es vs p) nodes c) where
  abbrev g : Graph
  g = graph_of h es vs p

  node-below : (i : ℕ) → i < c → get_or nodes i 0 < h.n
  node-below i b = rw (order-in h.k.0 h.n h.m es vs p) at
      (path-below g R.first R.others R.path (get_or nodes i 0) (rw R.is at (mem-tab c (λ (i : ℕ). get_or nodes i 0) i b)))

  size : (v : ℕ) → v < h.n → length (get_or g.verts v []) ≡ get_or vs (2 * v + 1) 0
  size v b = ap length (get_or-tab h.n (seq_in vs p) v [] b) ∙ part-long p _ _ (S.within.at v b)

  sums : total (λ (v : ℕ). length (get_or g.verts v [])) (R.first ∷ R.others) ≡ nodes_length vs nodes c
  sums =
      ap (total (λ (v : ℕ). length (get_or g.verts v []))) (sym R.is)
      ∙ total-sum (λ (v : ℕ). length (get_or g.verts v [])) (nums_in c nodes)
      ∙ ap sum (map-tab (λ (v : ℕ). length (get_or g.verts v [])) c (λ (i : ℕ). get_or nodes i 0)
      ∙ tab-ext c (λ (i : ℕ). length (get_or g.verts (get_or nodes i 0) [])) (λ (i : ℕ). get_or vs (2 * get_or nodes i 0 + 1) 0) (λ i b.
      size (get_or nodes i 0) (node-below i b)))

  pub route-listed : Listed vs p nodes c
  route-listed = record {
    nodes-room = R.room;
    vs-room = λ i b. omega (arith, node-below i b, S.vs-room);
    within = λ i b. S.within.at (get_or nodes i 0) (node-below i b);
    total =
        let k = total_kept length [] g.verts (R.first ∷ R.others)
        (path-distinct g S.sound.rank S.sound.ranks R.first R.others R.path) (λ v m. unfold node_count in
        (path-below g R.first R.others R.path v m)) in
        omega (arith, k, bytes-is g.verts, S.bytes, sums);
  }

  pub route-spelled : spelled_in vs p nodes c ≡ spelled g (nums_in c nodes)
  unfolding spelled vertex_sequence
  route-spelled =
      ap concat (map-tab (seq_in vs p) c (λ (i : ℕ). get_or nodes i 0)
      ∙ tab-ext c (λ (i : ℕ). seq_in vs p (get_or nodes i 0)) (λ (i : ℕ). get_or g.verts (get_or nodes i 0) []) (λ i b.
      sym (get_or-tab h.n (seq_in vs p) (get_or nodes i 0) [] (node-below i b)))
      ∙ sym (map-tab (λ (v : ℕ). get_or g.verts v []) c (λ (i : ℕ). get_or nodes i 0)))
