-- Edges behind the first m leave the index of these and the edges of a vertex as they are. Assumes nothing.
use mathlib.Core.Path.{◌≡◌, sym, ap, ◌∙◌}
use mathlib.Core.List.Memᴰ
use mathlib.Core.List.{List, map, map-map, Memᴰ}
use Prim.Native.Nat.{ℕ, ◌≤◌, ◌<◌}
use native.Mathlib.Omega.{arith}
use lib.ListN.{length}
use lib.Dec.{eqb}
use Rattle.defs.specs.Lists.{keep_if}
use Rattle.defs.specs.SeqGraph.{Edge, edges_from, edges_into, edge_data, new_edge}
use Rattle.defs.specs.Rewrites.{redirected_to, redirected_from}
use Rattle.laws.proofs.ListLaws.{of-keep_if}
use Rattle.tabs.proofs.Tabs.{tab-ext}
use Rattle.store.specs.Store.{edge_in, edges_in, graph_in, EndsBelow}
use Rattle.compact.proofs.CompactLaws.{ends-mem, mem-ends}
use Rattle.index.specs.Index.{edge_end, incident_edges, Next, Indexed, end_at}
use Rattle.index.proofs.IndexLaws.{keep-is, end_is}
use Rattle.redirect.specs.Redirect.{redirected_all}
use Rattle.redirect.proofs.RedirectLaws.{end_same, redirect, redirected-is}

-- the edges of a vertex, redirected, by the list of edges
all-is : (off y m : ℕ) (es : List ℕ) (v : ℕ) → off ≤ 1 → redirected_all off y m es v
    ≡ map (redirect off y) (keep_if (λ (e : Edge). eqb (end_at off e) v) (edges_in m es))
all-is off y m es v h =
    (λ i. map (λ (j : ℕ). redirected-is off y es j i) (incident_edges (edge_end off es) m v))
    ∙ sym (map-map (redirect off y) (edge_in es) (incident_edges (edge_end off es) m v))
    ∙ ap (map (redirect off y)) (sym (keep-is off m es (end_at off) (λ e. end_is es off e h) v))

pub into-all : (y k n m : ℕ) (es vs p : List ℕ) (v : ℕ) → redirected_all 1 y m es v ≡ map (redirected_to y) (edges_into (graph_in k n m es vs p) v)
unfolding redirected_to new_edge edge_data edges_into end_at
into-all y k n m es vs p v = all-is 1 y m es v (omega arith)

pub from_all : (y k n m : ℕ) (es vs p : List ℕ) (v : ℕ) → redirected_all 0 y m es v ≡ map (redirected_from y) (edges_from (graph_in k n m es vs p) v)
unfolding redirected_from new_edge edge_data edges_from end_at
from_all y k n m es vs p v = all-is 0 y m es v (omega arith)

-- an edge that enters y leaves one of the n vertices
pub into-ends : {n m : ℕ} {es : List ℕ} → EndsBelow n m es → (y v : ℕ) (e : Edge) → Memᴰ e (redirected_all 1 y m es v) → (e.from < n) × (e.to ≡ y)
unfolding end_at
into-ends {n} {m} {es} E y v e k =
    let z = Memᴰ.of_map (redirect 1 y) _ (rw (all-is 1 y m es v (omega arith)) at k) in
    let d = of-keep_if (λ (e : Edge). eqb (end_at 1 e) v) (edges_in m es) z.1 in
    (omega (arith, ap (λ (x : Edge). x.from) z.2, ends-mem E z.0 d.0), sym (ap (λ (x : Edge). x.to) z.2))

module _ (m : ℕ) (es es' : List ℕ) (same : (j : ℕ) → j < m → edge_in es' j ≡ edge_in es j) where
  pub all_same : (off y v : ℕ) → off ≤ 1 → redirected_all off y m es' v ≡ redirected_all off y m es v
  all_same off y v h =
      all-is off y m es' v h ∙ ap (λ (l : List Edge). map (redirect off y) (keep_if (λ (e : Edge). eqb (end_at off e) v) l))
      (tab-ext m (edge_in es') (edge_in es) same)
      ∙ sym (all-is off y m es v h)

  pub indexed-same : {n : ℕ} {heads nexts : List ℕ} → length es' ≡ length es → Indexed m n es heads nexts → Indexed m n es' heads nexts
  indexed-same {n} {heads} {nexts} q I = record {
    room = omega (arith, I.room);
    heads-room = I.heads-room;
    nexts-room = I.nexts-room;
    ends = mem-ends n m es' (λ e b. ends-mem I.ends e (rw (tab-ext m (edge_in es') (edge_in es) same) at b));
    index = λ off h. record {
      heads = λ v b. next off h ((I.index off h).heads v b);
      nexts = λ e b. rw (end_same off es es' e h (same e b)) (next off h ((I.index off h).nexts e b));
    };
  }
    where
      next : (off : ℕ) → off ≤ 1 → {v k e : ℕ} → Next (edge_end off es) m v k e → Next (edge_end off es') m v k e
      next off h {v} {k} {e} N = record {
        low = N.low;
        high = N.high;
        skip = λ j a b z. N.skip j a b (sym (end_same off es es' j h (same j (omega (arith, N.high)))) ∙ z);
        hit = λ b. end_same off es es' e h (same e b) ∙ N.hit b;
      }
