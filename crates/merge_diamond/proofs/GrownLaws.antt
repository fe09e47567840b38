-- Room for the additions of a diamond and of a set of tails. Assumes nothing.
use mathlib.Core.Path.{◌≡◌, refl, sym, ap}
use mathlib.Core.Logic.{inr}
use mathlib.Core.Bool.{true, ◌&&◌, ◌||◌}
use mathlib.Core.Option.{none, some}
use mathlib.Core.List.{List, Memᴰ}
use Prim.Native.Nat.{ℕ, ◌+◌, ◌*◌, ◌≤◌, ◌<◌}
use native.Mathlib.Omega.{arith}
use lib.Dec.{eqb, ltb, leb}
use lib.ListN.{length}
use borrow.Author.Tests.{eqb-true, ltb-true, leb-true}
use Rattle.defs.specs.Lists.{head_or, all_of}
use Rattle.defs.specs.SeqGraph.{Graph, Change, node_count, outgoing_nodes, out_degree, in_degree, with_additions}
use Rattle.defs.specs.Rewrites.{non_empty, is_diamond, bottom_of, shared_prefix, shared_suffix, diamond_change, try_merge_diamond, is_tails, tails_change, try_merge_tails}
use Rattle.defs.specs.Strings.{HasEdge}
use Rattle.laws.proofs.Walks.{start, at, stop}
use Rattle.laws.proofs.ListLaws.{clash, and_split, or_cases}
use Rattle.laws.proofs.Edges.{all_of-mem}
use Rattle.laws.proofs.SplitForms.{diamond-parts, tails-parts}
use Rattle.laws.proofs.Diamonds.{mem-outs, of-mem-outs, some_out, no-out, distinct-outs, room_split, non_empty-yes}
use Rattle.laws.proofs.Fuel.{Good}
use Rattle.laws.proofs.Measures.{diamond-tame, tails-tame}
use Rattle.memory.specs.Memory.{vertex_room, edge_room, Fit}
use Rattle.memory.proofs.RoomLaws.{fit-vertices, fit_edges, fit-tame}

-- g and its change fit: all the vertices and edges before any go, and those of g'
pub record GraphGrown (g : Graph) (c : Change) (g' : Graph) (heads nexts : List ℕ) : Type 0 where
  pub vertices : node_count (with_additions c g) ≤ 2 * vertex_room heads
  pub edges : length (with_additions c g).edges ≤ 2 * edge_room nexts
  pub fit : Fit g' heads nexts

diamond-within : (g g' : Graph) (top : ℕ) → Good g → try_merge_diamond g top ≡ some g'
    → (node_count (with_additions (diamond_change g top) g) ≤ node_count g' + node_count g)
    × (length (with_additions (diamond_change g top) g).edges ≤ length g'.edges + length g.edges)
unfolding is_diamond diamond_change shared_prefix shared_suffix bottom_of
diamond-within g g' top (sound, once) did =
    let mids = outgoing_nodes g top in
    let b = head_or 0 (outgoing_nodes g (head_or 0 mids)) in
    let h = diamond-parts g g' top did in
    let a = and_split (ltb 1 (length mids)) _ h.0 in
    let d = and_split (all_of (λ m. eqb (in_degree g m) 1 && (ltb 0 (out_degree g m) && all_of (eqb b) (outgoing_nodes g m))) mids) _ a.1 in
    let each : (m : ℕ) → Memᴰ m mids → (in_degree g m ≡ 1) × (0 < out_degree g m) × (all_of (eqb b) (outgoing_nodes g m) ≡ true) = λ m k.
    let x = and_split (eqb (in_degree g m) 1) _ (all_of-mem (λ m. eqb (in_degree g m) 1
    && (ltb 0 (out_degree g m) && all_of (eqb b) (outgoing_nodes g m))) mids d.0 k) in
    let y = and_split (ltb 0 (out_degree g m)) _ x.1 in
    (eqb-true _ _ x.0, ltb-true _ _ y.0, y.1) in
    let exit : (m v : ℕ) → Memᴰ m mids → HasEdge g m v → v ≡ b = λ m v k l.
    sym (eqb-true b v (all_of-mem (eqb b) (outgoing_nodes g m) (each m k).2 (mem-outs g m v l))) in
    let z = room_split g sound.bounded sound.rank sound.ranks top (some b)
    (λ m k. (each m k).0) (ltb-true _ _ a.0)
    (λ m k. let o = some_out g m (each m k).1 in rw (exit m o.0 k o.1) at o.1)
    (λ m. elim [
      | start ↦ λ k l. absurd l
      | at v ↦ λ k l. ap at (exit m v k l)
      | stop ↦ λ k l. let o = some_out g m (each m k).1 in
          absurd (l.1 o.0 o.1)
    ])
    (λ p s. non_empty p || non_empty s) (λ p s t. (or_cases _ _ t, λ _. (b, refl)))
    g' h.1 (distinct-outs g top once) in
    (z.1, z.2)

tails-within : (least : ℕ) → 0 < least → (g g' : Graph) (top : ℕ) → Good g → try_merge_tails least g top ≡ some g'
    → (node_count (with_additions (tails_change g top) g) ≤ node_count g' + node_count g)
    × (length (with_additions (tails_change g top) g).edges ≤ length g'.edges + length g.edges)
unfolding is_tails tails_change shared_prefix shared_suffix
tails-within least pos g g' top (sound, once) did =
    let mids = outgoing_nodes g top in
    let h = tails-parts least g g' top did in
    let a = and_split (ltb 1 (length mids)) _ h.0 in
    let each : (m : ℕ) → Memᴰ m mids → (out_degree g m ≡ 0) × (in_degree g m ≡ 1) = λ m k.
    let x = and_split (eqb (out_degree g m) 0) _ (all_of-mem (λ t. eqb (out_degree g t) 0 && eqb (in_degree g t) 1) mids a.1 k) in
    (eqb-true _ _ x.0, eqb-true _ _ x.1) in
    let z = room_split g sound.bounded sound.rank sound.ranks top none
    (λ m k. (each m k).1) (ltb-true _ _ a.0)
    (λ m k. (let e = of-mem-outs g top m k in rw e.3 at (sound.bounded e.0 e.1).1, λ w l. no-out g m w (each m k).0 l))
    (λ m. elim [ start ↦ λ k l. absurd l | at v ↦ λ k l. absurd (no-out g m v (each m k).0 l) | stop ↦ λ k l. refl ])
    (λ p s. leb least (length s)) (λ p s t. let n = leb-true least (length s) t in (inr (non_empty-yes s (omega arith)), λ e. clash (non_empty-yes s (omega arith)) e))
    g' h.1 (distinct-outs g top once) in
    (z.1, z.2)

pub diamond-grown : {g : Graph} {heads nexts : List ℕ} → Fit g heads nexts → (g' : Graph) (top : ℕ) → try_merge_diamond g top ≡ some g'
    → GraphGrown g (diamond_change g top) g' heads nexts
diamond-grown {g} F g' top did =
    let t = fit-tame F (diamond-tame g g' top F.good did).0 in
    let z = diamond-within g g' top F.good did in
    record { vertices = omega (arith, fit-vertices F, fit-vertices t, z.0); edges = omega (arith, fit_edges F, fit_edges t, z.1); fit = t }

pub tails-grown : (least : ℕ) → 3 < least → {g : Graph} {heads nexts : List ℕ} → Fit g heads nexts → (g' : Graph) (top : ℕ)
    → try_merge_tails least g top ≡ some g' → GraphGrown g (tails_change g top) g' heads nexts
tails-grown least pos {g} F g' top did =
    let t = fit-tame F (tails-tame least pos g g' top F.good did).0 in
    let z = tails-within least (omega arith) g g' top F.good did in
    record { vertices = omega (arith, fit-vertices F, fit-vertices t, z.0); edges = omega (arith, fit_edges F, fit_edges t, z.1); fit = t }
