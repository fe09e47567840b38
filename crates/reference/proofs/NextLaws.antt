-- The next vertex on the reference path, by the index. Assumes nothing.
use mathlib.Core.Path.{◌≡◌, sym, ap, ◌∙◌}
use mathlib.Core.Bool.{true, false}
use mathlib.Core.Option.{Option, some}
use mathlib.Core.List.{List, ◌∷◌, ◌++◌, map}
use Prim.Native.Nat.{ℕ, ◌+◌, ◌*◌, ◌≤◌, ◌<◌}
use native.Mathlib.Omega.{arith}
use lib.ListN.{get_or}
use Rattle.defs.specs.Lists.{keep_if}
use Rattle.defs.specs.SeqGraph.{Edge}
use Rattle.defs.specs.Paths.{first_to, next_on_reference}
use Rattle.laws.proofs.ListLaws.{keep_if-yes, keep_if-no}
use Rattle.store.specs.Store.{edge_in, graph_in}
use Rattle.index.specs.Index.{edge_end, at_from, incident_edges, Indexed}
use Rattle.index.proofs.AdjLaws.{at_head, at-step, at-end}
use Rattle.index.proofs.IndexLaws.{from_is, at_none, at_first}
use Rattle.refs.specs.Refs.{ref_at}
use Rattle.std.specs.Prelude.{Some, None}
use Rattle.paths.proofs.StepLaws.{out-index}
use Rattle.reference.specs.Reference.{NextOn}

-- the reference edges among those of a list of numbers, and then all at v: the first of them decides
abbrev pub next_among : ℕ → List ℕ → ℕ → List ℕ → Option ℕ
next_among m es v l = first_to (keep_if (λ (e : Edge). e.is_ref) (map (edge_in es) l) ++ map (edge_in es) (incident_edges (edge_end 0 es) m v))

next-is : (k n m : ℕ) (es vs p : List ℕ) (v : ℕ) → next_on_reference (graph_in k n m es vs p) v ≡ next_among m es v (incident_edges (edge_end 0 es) m v)
unfolding next_on_reference
next-is k n m es vs p v = ap (λ (l : List Edge). first_to (keep_if (λ (e : Edge). e.is_ref) l ++ l)) (from_is k n m es vs p v)

-- no reference edge before e
pub record Looking (m : ℕ) (es : List ℕ) (v e : ℕ) : Type 0 where
  pub high : e ≤ m
  pub hit : e < m → edge_end 0 es e ≡ v
  pub left : next_among m es v (incident_edges (edge_end 0 es) m v) ≡ next_among m es v (at_from (edge_end 0 es) m v e)

module _ {m n : ℕ} {es heads nexts : List ℕ} (I : Indexed m n es heads nexts) {v : ℕ} where
  pub looking-start : v < n → Looking m es v (get_or heads (2 * v) 0)
  looking-start h = let N = (out-index I).heads v h in record {
    high = N.high;
    hit = N.hit;
    left =
        ap (next_among m es v) (at_head (edge_end 0 es) m n (λ (v : ℕ). get_or heads (2 * v) 0) (λ (e : ℕ). get_or nexts (2 * e) 0) v (out-index I) h);
  }

  step : (e : ℕ) → e < m → edge_end 0 es e ≡ v → at_from (edge_end 0 es) m v e ≡ e ∷ at_from (edge_end 0 es) m v (get_or nexts (2 * e) 0)
  step e h q = at-step (edge_end 0 es) m n (λ (v : ℕ). get_or heads (2 * v) 0) (λ (e : ℕ). get_or nexts (2 * e) 0) v e (out-index I) h q

  pub looking-more : {e : ℕ} → Looking m es v e → e < m → ref_at es e ≡ false → Looking m es v (get_or nexts (2 * e) 0)
  looking-more {e} L h f = let N = (out-index I).nexts e h in record {
    high = N.high;
    hit = λ b. N.hit b ∙ L.hit h;
    left = L.left ∙ ap (next_among m es v) (step e h (L.hit h))
        ∙ ap (λ (l : List Edge). first_to (l ++ map (edge_in es) (incident_edges (edge_end 0 es) m v)))
        (keep_if-no (λ (e : Edge). e.is_ref) (edge_in es e) (map (edge_in es) (at_from (edge_end 0 es) m v (get_or nexts (2 * e) 0))) f);
  }

  next-by : {x : ℕ} → x < n → next_among m es v (incident_edges (edge_end 0 es) m v) ≡ some x → NextOn m n es v (Some x)
  next-by {x} b q = record { is = λ k vs p. sym (next-is k n m es vs p v ∙ q); below = λ w e. let z : w ≡ x = cc in omega arith }

  pub looking-found : {e x : ℕ} → Looking m es v e → e < m → ref_at es e ≡ true → x ≡ get_or es (4 * e + 1) 0 → NextOn m n es v (Some x)
  unfolding first_to
  looking-found {e} {x} L h t q = next-by (omega (arith, (I.ends.at e h).1)) (L.left ∙ ap (next_among m es v) (step e h (L.hit h))
      ∙ ap (λ (l : List Edge). first_to (l ++ map (edge_in es) (incident_edges (edge_end 0 es) m v)))
      (keep_if-yes (λ (e : Edge). e.is_ref) (edge_in es e) (map (edge_in es) (at_from (edge_end 0 es) m v (get_or nexts (2 * e) 0))) t)
      ∙ ap some (sym q))

  pub looking-end : {e x : ℕ} (first : ℕ) → v < n → Looking m es v e → m ≤ e → first ≡ get_or heads (2 * v) 0 → first < m → x
      ≡ get_or es (4 * first + 1) 0 → NextOn m n es v (Some x)
  unfolding first_to keep_if
  looking-end {e} {x} first b L h z f q = next-by (omega (arith, (I.ends.at first f).1)) (L.left ∙ ap (next_among m es v) (at-end (edge_end 0 es) m v e h)
      ∙ ap (λ (l : List ℕ). first_to (map (edge_in es) l)) (at_first (out-index I) b first z f) ∙ ap some (sym q))

  pub looking-none : (first : ℕ) → v < n → first ≡ get_or heads (2 * v) 0 → m ≤ first → NextOn m n es v None
  unfolding first_to keep_if
  looking-none first b z h = record {
    is = λ k vs p. sym (next-is k n m es vs p v ∙ ap (λ (l : List ℕ).
        first_to (keep_if (λ (e : Edge). e.is_ref) (map (edge_in es) l) ++ map (edge_in es) l)) (at_none (out-index I) b first z h));
    below = λ w e. absurd (let z : ◌≡◌ {A = ℕ} 0 1 = cc in omega arith);
  }
