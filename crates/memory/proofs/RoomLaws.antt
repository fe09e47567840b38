-- What fits before a rewrite, within it, and after it. Assumes nothing.
use mathlib.Core.Path.{◌≡◌, refl, sym, ap, ◌∙◌}
use mathlib.Core.List.{List}
use Prim.Native.Nat.{ℕ, ◌+◌, ◌/◌, ◌≤◌, ◌<◌}
use native.Mathlib.Omega.{arith}
use lib.ListN.{length, get_or}
use Rattle.defs.specs.SeqGraph.{Edge, Graph, node_count}
use Rattle.defs.specs.Simplify.{sequence_bytes, empty_vertices}
use Rattle.laws.proofs.Measures.{weight, load, order-weight, Tame}
use Rattle.tabs.proofs.Tabs.{length-tab}
use Rattle.store.specs.Store.{edge_in, edges_in, seq_in, graph_in, EndsBelow, Within}
use Rattle.compact.proofs.CompactLaws.{order-in, mem-ends}
use Rattle.memory.specs.Memory.{graph_of, vertex_room, edge_room, Room, Fit, Holds}
use Rattle.memory.specs.declared.Held.{Held}

pub fit-vertices : {g : Graph} {heads nexts : List ℕ} → Fit g heads nexts → node_count g ≤ vertex_room heads
fit-vertices {g} F = omega (arith, F.light, order-weight g)

pub fit_edges : {g : Graph} {heads nexts : List ℕ} → Fit g heads nexts → length g.edges ≤ edge_room nexts
unfolding load
fit_edges {g} F = omega (arith, F.surplus, F.light, order-weight g)

pub fit-bytes : {g : Graph} {heads nexts : List ℕ} → Fit g heads nexts → sequence_bytes g.verts ≤ vertex_room heads
unfolding weight
fit-bytes {g} F = omega (arith, F.light)

-- a rewrite's graph fits again
pub fit-tame : {g g' : Graph} {heads nexts : List ℕ} → Fit g heads nexts → Tame g g' → Fit g' heads nexts
fit-tame F t = record { good = t.good; light = omega (arith, F.light, t.light); surplus = omega (arith, F.surplus, t.room) }

-- of a held graph
module _ {h : Held} {es vs p heads nexts : List ℕ} (H : Holds h es vs p heads nexts) where
  pub held-vertices : h.n ≤ vertex_room heads
  held-vertices = omega (arith, fit-vertices H.fit, order-in h.k.0 h.n h.m es vs p)

  pub held-edges : h.m ≤ edge_room nexts
  held-edges = omega (arith, fit_edges H.fit, length-tab h.m (edge_in es))

  pub held-ends : EndsBelow h.n h.m es
  held-ends = mem-ends h.n h.m es (λ e b. rw (order-in h.k.0 h.n h.m es vs p) at (H.fit.good.0.bounded e b))

  -- the sequences lie in the pool
  pub held-pool : {nodes mp : List ℕ} → Room es vs p heads nexts nodes mp → Within (length p) h.n vs
  held-pool R = record { at = λ v b. omega (arith, H.within.at v b, H.used-room, R.p-room) }

-- room goes by lengths
pub room-kept : {es vs p heads nexts nodes mp es' vs' p' heads' nexts' nodes' mp' : List ℕ} → Room es vs p heads nexts nodes mp
    → length es' ≡ length es → length vs' ≡ length vs → length p' ≡ length p → length heads' ≡ length heads → length nexts' ≡ length nexts
    → length nodes' ≡ length nodes → length mp' ≡ length mp
    → Room es' vs' p' heads' nexts' nodes' mp'
room-kept R a b c d e f g = record {
  es-room = rw (a, e) R.es-room;
  vs-room = rw (b, d) R.vs-room;
  p-room = rw (c, d) R.p-room;
  nodes-room = rw (e, f) R.nodes-room;
  map-room = rw (d, g) R.map-room;
  vertices-edges = rw (d, e) R.vertices-edges;
  small = rw e R.small;
}

pub holds_kept : {h : Held} {es vs p heads nexts heads' nexts' : List ℕ} → Holds h es vs p heads nexts → length heads' ≡ length heads
    → length nexts' ≡ length nexts → Holds h es vs p heads' nexts'
holds_kept H d e = record {
  fit = record { good = H.fit.good; light = rw d H.fit.light; surplus = rw (d, e) H.fit.surplus };
  within = H.within;
  used-room = rw d H.used-room;
}
