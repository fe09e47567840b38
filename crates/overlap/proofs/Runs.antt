-- What conversion keeps of the k-mers: a source holds its whole k-mer, every other vertex its last byte; and where each edge's k-mers follow one
-- another, each run of k bytes of every end-to-end string of the converted graph is one of the k-mers. Assumes nothing.
use Prim.Native.Nat.{ℕ, zero, suc, ◌+◌, ◌-◌, ◌≤◌, ◌<◌}
use native.Mathlib.Omega.{arith}
use mathlib.Core.Path.{◌≡◌, sym, ap, ◌∙◌}
use mathlib.Core.Bool.{false, not}
use mathlib.Core.List.Memᴰ
use mathlib.Core.List.{List, [], ◌∷◌, ◌++◌, map, append_assoc, Memᴰ}
use lib.Dec.{eqb}
use lib.ListN.{length, take, drop, take-append-drop, length-append}
use lib.Seq.{take_at}
use borrow.Author.Tests.{eqb-false, ne_eqb}
use Rattle.defs.specs.Lists.{concat}
use Rattle.defs.specs.SeqGraph.{Edge, Graph, node_count, vertex_sequence, edges_into, in_degree}
use Rattle.defs.specs.Strings.{HasEdge, IsPath, Spells, spelled}
use Rattle.defs.specs.Assembly.{first_bytes, last_bytes, overlaps, edges_sorted, additional_sequence, from_assembly_graph, SourcesHoldKmers, RunsAreKmers}
use Rattle.defs.specs.Refusals.{edge_without_overlap}
use Rattle.laws.proofs.Walks.{by_test}
use Rattle.laws.proofs.ListLaws.{clash, by_order, at_mem, same_list-eq}
use Rattle.laws.proofs.Edges.{in-edges_into, some_in}
use Rattle.laws.proofs.Cycles.{any_of-mem}
use Rattle.tabs.proofs.Tabs.{length-tab, get_or-tab}
use Rattle.convert.proofs.SortLaws.{of-sort, mem-sort}

-- a k-mer q, the next one r, and what follows r's bytes: q is the first run, the others are those behind r
step-over : (n : ℕ) (q r t : List ℕ) → length q ≡ suc n → length r ≡ suc n → last_bytes n q ≡ first_bytes n r
    → (a : ℕ) × (q ++ (last_bytes 1 r ++ t) ≡ a ∷ (r ++ t))
step-over n [] r t p s e = absurd (omega arith)
step-over n (a ∷ q) r t p s e =
    let one : suc (length q) - n ≡ 1 = omega arith in
    let last : length r - 1 ≡ n = omega arith in
    let same : q ≡ take n r = rw one at e in
    (a, rw last (ap (λ z. a ∷ z) (sym (append_assoc q (drop n r) t) ∙ ap (λ z. z ++ t) (ap (λ z. z ++ drop n r) same ∙ take-append-drop n r))))

-- ---- the converted graph

module _ (g : Graph) where
  edge-back : (u v : ℕ) → HasEdge (from_assembly_graph g) u v → HasEdge g u v
  unfolding from_assembly_graph edges_sorted
  edge-back u v (e, m, p, q) = (e, of-sort g g.edges e m, p, q)

  edge_on : (u v : ℕ) → HasEdge g u v → HasEdge (from_assembly_graph g) u v
  unfolding from_assembly_graph edges_sorted
  edge_on u v (e, m, p, q) = (e, mem-sort g g.edges e m, p, q)

  pub order-converted : node_count (from_assembly_graph g) ≡ node_count g
  unfolding node_count from_assembly_graph
  order-converted = length-tab (length g.verts) (additional_sequence g)

  sequence-converted : (v : ℕ) → v < node_count g → vertex_sequence (from_assembly_graph g) v ≡ additional_sequence g v
  unfolding vertex_sequence from_assembly_graph
  sequence-converted v h = get_or-tab (node_count g) (additional_sequence g) v [] h

  whole : (v : ℕ) → ((u : ℕ) → HasEdge g u v → ⊥) → additional_sequence g v ≡ vertex_sequence g v
  unfolding additional_sequence
  whole v h = by_test (eqb (in_degree g v) 0) (λ t. rw t)
      (λ t. let n = eqb-false (in_degree g v) 0 t in
      let r = some_in g v (by_order (in_degree g v) 0 (λ l. absurd (n (omega arith))) (λ l. l)) in
      absurd (h r.0 r.1))

  last_byte : (u v : ℕ) → HasEdge g u v → additional_sequence g v ≡ last_bytes 1 (vertex_sequence g v)
  unfolding additional_sequence in_degree
  last_byte u v (e, m, p, q) = rw (ne_eqb (length (edges_into g v)) 0 (λ z. empty (edges_into g v) z (in-edges_into g v e m q)))
    where
      empty : {d : Edge} (l : List Edge) → length l ≡ 0 → Memᴰ d l → ⊥
      empty [] h m = Memᴰ.not-nil m
      empty (x ∷ l) h m = omega arith

  -- SOURCES HOLD THEIR k-MERS, EVERY OTHER VERTEX ITS LAST BYTE
  pub sources-hold-kmers : SourcesHoldKmers g (from_assembly_graph g)
  sources-hold-kmers = record {
    source = λ v b none. sequence-converted v (omega (arith, order-converted)) ∙ whole v (λ u e. none u (edge_on u v e));
    other = λ v b u e. sequence-converted v (omega (arith, order-converted)) ∙ last_byte u v (edge-back u v e);
  }

  -- ---- runs

  module _ (lengths : (v : List ℕ) → Memᴰ v g.verts → length v ≡ g.k) (overlap : edge_without_overlap g ≡ false) where
    is-kmer : (v : ℕ) → v < node_count g → Memᴰ (vertex_sequence g v) g.verts
    unfolding node_count vertex_sequence
    is-kmer v h = at_mem [] g.verts v h

    kmer-length : (v : ℕ) → v < node_count g → length (vertex_sequence g v) ≡ g.k
    kmer-length v h = lengths _ (is-kmer v h)

    follows : (u v : ℕ) → HasEdge g u v → last_bytes (g.k - 1) (vertex_sequence g u) ≡ first_bytes (g.k - 1) (vertex_sequence g v)
    unfolding edge_without_overlap overlaps
    follows u v (e, m, p, q) = rw (← p, ← q) (same_list-eq _ _
        (by_test (overlaps g e) (λ t. t) (λ t. clash (any_of-mem (λ (e : Edge). not (overlaps g e)) g.edges m (rw t)) overlap)))

    -- what the vertices behind the first add
    added : List ℕ → List ℕ
    added ws = concat (map (vertex_sequence (from_assembly_graph g)) ws)

    first-old : (v : ℕ) (ws : List ℕ) → IsPath (from_assembly_graph g) v ws → v < node_count g
    first-old v [] h = rw order-converted at h
    first-old v (w ∷ ws) h = rw order-converted at h.0

    module _ (positive : 1 ≤ g.k) where
      -- along an edge: the k-mer of v with what w and the path behind w add
      along : (v w : ℕ) (ws : List ℕ) → v < node_count g → w < node_count g → HasEdge g v w
          → (a : ℕ) × (vertex_sequence g v ++ added (w ∷ ws) ≡ a ∷ (vertex_sequence g w ++ added ws))
      unfolding added concat
      along v w ws h l e =
          rw (sequence-converted w l, last_byte v w e)
          (step-over (g.k - 1) (vertex_sequence g v) (vertex_sequence g w) (added ws) (omega (arith, kmer-length v h)) (omega (arith, kmer-length w l))
          (follows v w e))

      -- the runs of the k-mer of v with what the path behind v adds
      runs : (v : ℕ) (ws : List ℕ) → IsPath (from_assembly_graph g) v ws → (i : ℕ) → i + g.k ≤ length (vertex_sequence g v ++ added ws)
          → Memᴰ (take g.k (drop i (vertex_sequence g v ++ added ws))) g.verts
      unfolding added concat
      runs v ws p zero h = let l = first-old v ws p in rw (take_at (vertex_sequence g v) (added ws) g.k (kmer-length v l)) (is-kmer v l)
      runs v [] p (suc i) h = absurd (omega (arith, h, length-append (vertex_sequence g v) [], kmer-length v (first-old v [] p)))
      runs v (w ∷ ws) p (suc i) h =
          let r = along v w ws (first-old v (w ∷ ws) p) (first-old w ws p.2) (edge-back v w p.1) in
          rw r.1 (runs w ws p.2 i (omega (arith, h, ap length r.1)))

      from-source : (s : List ℕ) (w : Spells (from_assembly_graph g) s) → s ≡ vertex_sequence g w.first ++ added w.others
      unfolding spelled added concat
      from-source s w =
          sym w.spell ∙ ap (λ z. z ++ added w.others)
          (sequence-converted w.first (first-old w.first w.others w.path) ∙ whole w.first (λ u e. w.source u (edge_on u w.first e)))

      -- EACH RUN OF k BYTES IS A k-MER. Cycles do not matter.
      pub runs-are-kmers : RunsAreKmers g (from_assembly_graph g)
      runs-are-kmers = record {
        run = λ s w i h. let e = from-source s w in rw e (runs w.first w.others w.path i (rw e at h));
      }
