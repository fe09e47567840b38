-- A graph of one vertex, whose sequence is empty, and no edge, as a test holds it. Assumes nothing.
use mathlib.Core.Path.{◌≡◌}
use mathlib.Core.List.Memᴰ
use mathlib.Core.List.{List, [], ◌∷◌}
use Prim.Native.Nat.{ℕ, zero, suc, ◌+◌, ◌*◌, ◌≤◌, ◌<◌}
use native.Mathlib.Omega.{arith}
use lib.ListN.{get_or}
use Rattle.defs.specs.Lists.{tab_from}
use Rattle.defs.specs.SeqGraph.{node_count}
use Rattle.defs.specs.Simplify.{sequence_bytes, empty_vertices}
use Rattle.laws.proofs.Measures.{weight, load}
use Rattle.memory.specs.Memory.{vertex_room, edge_room, Fit, Holds}
use Rattle.memory.specs.declared.Held.{Held}

one-vertex-fit : (k : ℕ) {heads nexts : List ℕ} → 1 ≤ vertex_room heads → vertex_room heads ≤ edge_room nexts
    → Fit (record { k = k; verts = [] ∷ []; edges = [] }) heads nexts
unfolding weight load node_count sequence_bytes empty_vertices
one-vertex-fit k some more = record {
  good = (record { bounded = λ e m. absurd (Memᴰ.not-nil m); rank = λ v. v; ranks = λ u v w. absurd (Memᴰ.not-nil w.1) }, tt);
  light = some;
  surplus = omega (arith, more);
}

at-vertex : (vs : List ℕ) → get_or vs 0 0 ≡ 0 → get_or vs 1 0 ≡ 0 → (v : ℕ) → v < 1 → get_or vs (2 * v) 0 + get_or vs (2 * v + 1) 0 ≤ 0
at-vertex vs at len zero b = omega (arith, at, len)
at-vertex vs at len (suc v) b = absurd (omega (arith, b))

pub one-vertex-held : {h : Held} {es vs p heads nexts : List ℕ} → h.n ≡ 1 → h.m ≡ 0 → h.used ≡ 0 → get_or vs 0 0 ≡ 0 → get_or vs 1 0 ≡ 0
    → 1 ≤ vertex_room heads → vertex_room heads ≤ edge_room nexts → Holds h es vs p heads nexts
unfolding tab_from
one-vertex-held {h} {es} {vs} n m used at len some more = record {
  fit = rw (n, m, len) (one-vertex-fit h.k.0 some more);
  within = rw (n, used) record { at = at-vertex vs at len };
  used-room = omega (arith, used);
}
