-- A well formed record's graph, measured by the record's own counts. Assumes nothing.
use mathlib.Core.Path.{◌≡◌, refl}
use mathlib.Core.Logic.{◌⊎◌, inl, inr, ⊎_elim}
use mathlib.Core.List.{List, [], ◌∷◌}
use Prim.Native.Nat.{ℕ, ◌+◌, ◌≤◌, ◌<◌}
use native.Mathlib.Omega.{arith}
use lib.ListN.{length}
use Rattle.defs.specs.SeqGraph.{node_count}
use Rattle.defs.specs.Simplify.{sequence_bytes, empty_vertices}
use Rattle.defs.specs.Record.{vertices_of, edges_of, bytes_of, decode}
use Rattle.laws.proofs.Branching.{branching, branching-is}
use Rattle.laws.proofs.Room.{empties-le, sinks-le}
use Rattle.laws.proofs.Measures.{weight}
use Rattle.record.specs.Layout.{WellFormed}
use Rattle.sound.proofs.Accepted.{order-read, edges-read, read-bounded, read-bytes}

-- where there are bytes, a vertex at least is not empty
some-full : (vs : List (List ℕ)) → (sequence_bytes vs ≡ 0) ⊎ (empty_vertices vs < length vs)
unfolding sequence_bytes empty_vertices
some-full [] = inl refl
some-full ([] ∷ vs) = ⊎_elim (λ (q : sequence_bytes vs ≡ 0). inl (omega arith)) (λ (l : empty_vertices vs < length vs). inr (omega arith)) (some-full vs)
some-full ((x ∷ xs) ∷ vs) = inr (omega (arith, empties-le vs))

module _ (bs : List ℕ) (ok : WellFormed bs) where
  -- N is below any number that V is below and that V and B together do not pass
  pub read-light : {r : ℕ} → vertices_of bs < r → vertices_of bs + bytes_of bs ≤ r → weight (decode bs) < r
  unfolding weight node_count
  read-light a b =
      let vs = (decode bs).verts in
      ⊎_elim
      (λ (q : sequence_bytes vs ≡ 0). omega (arith, empties-le vs, order-read bs))
      (λ (k : empty_vertices vs < length vs). omega (arith, order-read bs, read-bytes bs ok))
      (some-full vs)

  -- S is at most E
  pub read-branching : branching (decode bs) ≤ edges_of bs
  read-branching = omega (arith, branching-is (decode bs) (read-bounded bs ok), sinks-le (decode bs), edges-read bs)
