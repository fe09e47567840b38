-- What is left when the vertices go that no walk reaches. Assumes nothing.
use mathlib.Core.Path.{◌≡◌, refl, sym, ap, ◌∙◌}
use mathlib.Core.Bool.{Bool, true, false, not, ◌&&◌}
use mathlib.Core.List.{List}
use Prim.Native.Nat.{ℕ, ◌+◌, ◌≤◌, ◌<◌}
use native.Mathlib.Omega.{arith}
use native.Mathlib.Decide.{ℕ_discrete}
use lib.Dec.{eqb}
use lib.ListN.{length, get_or, set, length-set}
use lib.Seq.{get_or-set_same, get_or-set_other}
use borrow.Author.Tests.{eq-eqb, ne_eqb}
use Rattle.defs.specs.Lists.{elem_of}
use Rattle.defs.specs.SeqGraph.{Graph, node_count, compact_vertices}
use Rattle.defs.specs.Cleanup.{forward, backward, either, reached, remove_vertices_not_connected_to_ref, remove_paths_not_connected_to_ref}
use Rattle.store.specs.Store.{is_set, EndsBelow}
use Rattle.compact.specs.Compact.{unmarked}
use Rattle.compact.proofs.CompactLaws.{restrict-same, order-in}
use Rattle.refs.specs.Refs.{FirstSource}
use Rattle.std.specs.Prelude as prelude
use Rattle.std.specs.Prelude.{Some, None}
use Rattle.refs.proofs.RefLaws.{source-found, source-missing}
use Rattle.memory.specs.Memory.{graph_of}
use Rattle.memory.specs.declared.Held.{Held}
use Rattle.reach.specs.Reach.{step_of, walk_step, Reached}
use Rattle.orphans.specs.Orphans.{Reduced}
use Rattle.orphans.proofs.OrphanLaws.{bounded-in}
use Rattle.connected.specs.Connected.{Missed, Unreached}

-- ---- the marks

pub record Missing (n : ℕ) (marks mp₀ mp : List ℕ) (i : ℕ) : Type 0 where
  pub high : i ≤ n
  pub len : length mp ≡ length mp₀
  pub at : (v : ℕ) → v < i → unmarked mp v ≡ unmarked mp₀ v && is_set (get_or marks v 0)
  pub rest : (v : ℕ) → i ≤ v → get_or mp v 0 ≡ get_or mp₀ v 0

and-false : (a : Bool) → false ≡ a && false
and-false true = refl
and-false false = refl

and-only : (a : Bool) {b : Bool} → b ≡ true → a ≡ a && b
and-only true q = sym q
and-only false q = refl

module _ {n : ℕ} {marks mp₀ : List ℕ} where
  pub missing-start : Missing n marks mp₀ mp₀ 0
  missing-start = record { high = omega arith; len = refl; at = λ v b. absurd (omega arith); rest = λ v l. refl }

  module _ {mp : List ℕ} {i : ℕ} (M : Missing n marks mp₀ mp i) (b : i < n) where
    pub missing-yes : n ≤ length mp₀ → get_or marks i 0 ≡ 0 → Missing n marks mp₀ (set mp i 1) (i + 1)
    missing-yes room z = record {
      high = omega arith;
      len = length-set mp i 1 ∙ M.len;
      at = λ v l. elim (ℕ_discrete v i) [
        | yes q ↦ rw q (ap (λ (x : ℕ). eqb x 0) (get_or-set_same mp i 1 0 (omega (arith, M.len))) ∙ and-false (unmarked mp₀ i)
            ∙ ap (λ (x : Bool). unmarked mp₀ i && x) (sym (ap not (eq-eqb (get_or marks i 0) 0 z))))
        | no ne ↦ ap (λ (x : ℕ). eqb x 0) (get_or-set_other mp i v 1 0 ne) ∙ M.at v (omega arith)
      ];
      rest = λ v l. get_or-set_other mp i v 1 0 (λ q. omega arith) ∙ M.rest v (omega arith);
    }

    pub missing-no : (get_or marks i 0 ≡ 0 → ⊥) → Missing n marks mp₀ mp (i + 1)
    missing-no ne = record {
      high = omega arith;
      len = M.len;
      at = λ v l. elim (ℕ_discrete v i) [
        | yes q ↦ rw q (ap (λ (x : ℕ). eqb x 0) (M.rest i (omega arith)) ∙ and-only (unmarked mp₀ i) (ap not (ne_eqb (get_or marks i 0) 0 ne)))
        | no z ↦ M.at v (omega arith)
      ];
      rest = λ v l. M.rest v (omega arith);
    }

  pub missing-end : {mp : List ℕ} {i : ℕ} → Missing n marks mp₀ mp i → n ≤ i → Missed n marks mp₀ mp
  missing-end M l = record { at = λ v b. M.at v (omega arith) }

pub unreached : {kind m n : ℕ} {es : List ℕ} {s : ℕ} {marks mp mp' : List ℕ} → Reached false kind m n es s marks → Missed n marks mp mp'
    → Unreached kind m n es s mp mp'
unreached {mp = mp} R M = record { at = λ k vs p v b. M.at v b ∙ ap (λ (x : Bool). unmarked mp v && x) (R.at k vs p v b) }

-- ---- what is left

pub reduced-same : {f : Graph → Graph} (h : Held) {es vs : List ℕ} → EndsBelow h.n h.m es
    → ((p : List ℕ) → f (graph_of h es vs p) ≡ graph_of h es vs p) → Reduced f h es vs h es vs
reduced-same h E same = record { is = λ p. sym (same p); most-n = omega arith; most-m = omega arith; ends = E; within = λ used W. W; used-is = refl }

pub no-source-stays : (h : Held) (es vs : List ℕ) {r : prelude.Option ℕ} → FirstSource h.m h.n es r → r ≡ None → (p : List ℕ)
    → remove_vertices_not_connected_to_ref (graph_of h es vs p) ≡ graph_of h es vs p
unfolding remove_vertices_not_connected_to_ref
no-source-stays h es vs F l p = rw (source-missing F l h.k.0 vs p, remove_vertices_not_connected_to_ref)

module _ (h : Held) (es vs : List ℕ) (E : EndsBelow h.n h.m es) (mp : List ℕ) (clear : (v : ℕ) → v < h.n → get_or mp v 0 ≡ 0) where
  stays : (v : ℕ) → v < h.n → unmarked mp v ≡ true
  stays v b = eq-eqb (get_or mp v 0) 0 (clear v b)

  below : (p : List ℕ) (v : ℕ) → v < node_count (graph_of h es vs p) → v < h.n
  below p v l = omega (arith, l, order-in h.k.0 h.n h.m es vs p)

  pub connected-stay : {r : prelude.Option ℕ} {s : ℕ} {mp' : List ℕ} → FirstSource h.m h.n es r → r ≡ Some s
      → Unreached 2 h.m h.n es s mp mp' → (p : List ℕ) → compact_vertices (unmarked mp') (graph_of h es vs p)
      ≡ remove_vertices_not_connected_to_ref (graph_of h es vs p)
  unfolding remove_vertices_not_connected_to_ref walk_step step_of
  connected-stay {s = s} {mp'} F l U p =
      let g = graph_of h es vs p in
      restrict-same (unmarked mp') (λ (v : ℕ). elem_of v (reached either g s)) g
      (λ v b. U.at h.k.0 vs p v (below p v b) ∙ ap (λ (x : Bool). x && elem_of v (reached either g s)) (stays v (below p v b)))
      (bounded-in {es = es} E h.k.0 vs p)
      ∙ rw (source-found F l h.k.0 vs p, remove_vertices_not_connected_to_ref)

  pub paths-stay : {s t : ℕ} {mp₁ mp₂ : List ℕ} → Unreached 0 h.m h.n es s mp mp₁ → Unreached 1 h.m h.n es t mp₁ mp₂
      → (p : List ℕ) → compact_vertices (unmarked mp₂) (graph_of h es vs p) ≡ remove_paths_not_connected_to_ref (graph_of h es vs p) s t
  unfolding remove_paths_not_connected_to_ref walk_step step_of
  paths-stay {s} {t} {mp₁} {mp₂} A B p =
      let g = graph_of h es vs p in
      restrict-same (unmarked mp₂) (λ (v : ℕ). elem_of v (reached forward g s) && elem_of v (reached backward g t)) g
      (λ v b. B.at h.k.0 vs p v (below p v b)
      ∙ ap (λ (x : Bool). x && elem_of v (reached backward g t)) (A.at h.k.0 vs p v (below p v b)
      ∙ ap (λ (x : Bool). x && elem_of v (reached forward g s)) (stays v (below p v b))))
      (bounded-in {es = es} E h.k.0 vs p)
