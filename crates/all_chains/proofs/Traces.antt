-- The whole chain behind a vertex, without fuel.
-- Assumes nothing.
use Prim.Native.Nat.{ℕ, zero, suc, ◌<◌}
use native.Mathlib.Omega.{arith}
use native.Mathlib.Nat.{not-suc-le-zero, le_of_suc-le-suc}
use mathlib.Core.Path.{◌≡◌, refl, sym, ap, ◌∙◌}
use mathlib.Core.Logic.{⊎_elim}
use mathlib.Core.Bool.{true, false, ◌&&◌}
use mathlib.Core.List.Memᴰ
use mathlib.Core.List.{List, [], ◌∷◌, Memᴰ}
use lib.Dec.{eqb, ltb}
use lib.ListN.{length, length-map}
use borrow.Author.Tests.{eqb-true, lt-ltb, ltb-true, le-ltb}
use Rattle.defs.specs.Lists.{head_or}
use Rattle.defs.specs.SeqGraph.{Edge, Graph, node_count, outgoing_nodes, incoming_nodes, edges_from, edges_into, out_degree, in_degree}
use Rattle.defs.specs.Zip.{is_linear_chain_start, chain_goes_on, trace_linear_chain, linear_chain}
use Rattle.defs.specs.Strings.{HasEdge}
use Rattle.laws.proofs.Walks.{by_test}
use Rattle.laws.proofs.ListLaws.{and_split}
use Rattle.laws.proofs.Edges.{only_out_lem, of-mem-ins}
use Rattle.laws.proofs.Diamonds.{of-mem-outs, only-in}
use Rattle.laws.proofs.MergeCounts.{mem-head}
use Rattle.laws.proofs.Cycles.{distinct-length}
use Rattle.laws.proofs.Sound.{Sound}
use Rattle.laws.proofs.ZipLaws.{Chained, pred_in}
use Rattle.laws.proofs.ZipCounts.{distinct-chain}
use Rattle.all_chains.proofs.Closing.{and_right}

abbrev pub next_in_chain : Graph → ℕ → ℕ
next_in_chain g x = head_or 0 (outgoing_nodes g x)

-- ys is all of the chain behind x
abbrev pub WholeChain : Graph → ℕ → List ℕ → Type 0
WholeChain g x [] = chain_goes_on g x (next_in_chain g x) ≡ false
WholeChain g x (y ∷ ys) = (y ≡ next_in_chain g x) × (chain_goes_on g x y ≡ true) × WholeChain g y ys

pub first_out : (g : Graph) (x : ℕ) → out_degree g x ≡ 1 → HasEdge g x (next_in_chain g x)
first_out g x d = of-mem-outs g x (next_in_chain g x) (mem-head (outgoing_nodes g x) (unfold outgoing_nodes out_degree in
    omega (arith, d, length-map (edges_from g x) (λ (e : Edge). e.to))))

-- what a step of a chain says
pub record ChainStep (g : Graph) (x y : ℕ) : Type 0 where
  pub out : out_degree g x ≡ 1
  pub into : in_degree g y ≡ 1
  pub edge : HasEdge g x y

pub step_of_lem : (g : Graph) (x y : ℕ) → y ≡ next_in_chain g x → chain_goes_on g x y ≡ true → ChainStep g x y
unfolding chain_goes_on
step_of_lem g x y e t =
    let a = and_split (eqb (out_degree g x) 1) _ t in
    let b = and_split (eqb (in_degree g y) 1) _ a.1 in
    let d : out_degree g x ≡ 1 = eqb-true _ _ a.0 in
    record { out = d; into = eqb-true _ _ b.0; edge = rw e (first_out g x d) }

pub whole-chained : (g : Graph) (x : ℕ) (ys : List ℕ) → WholeChain g x ys → Chained g x ys
whole-chained g x [] w = tt
whole-chained g x (y ∷ ys) (e, t, w) =
    let s = step_of_lem g x y e t in
    (s.edge, λ v l. only_out_lem g x v y s.out l s.edge, λ u l. only-in g u x y s.into l s.edge, whole-chained g y ys w)

-- the step into each vertex behind the first
pub step-into : (g : Graph) (x : ℕ) (ys : List ℕ) → WholeChain g x ys → (v : ℕ) → Memᴰ v ys → (u : ℕ) × ChainStep g u v
step-into g x [] w v m = absurd (Memᴰ.not-nil m)
step-into g x (y ∷ ys) (e, t, w) v m = ⊎_elim {C = (u : ℕ) × ChainStep g u v} (λ (i : v ≡ y). (x, rw i (step_of_lem g x y e t))) (λ n.
    step-into g y ys w v n) (Memᴰ.cases_cons m)

-- no chain starts where a step leads
pub step-no-start : (g : Graph) (x y : ℕ) → ChainStep g x y → is_linear_chain_start g y ≡ false
unfolding is_linear_chain_start
step-no-start g x y s =
    let m = mem-head (incoming_nodes g y) (omega (arith, long, s.into)) in
    let e : head_or 0 (incoming_nodes g y) ≡ x = only-in g (head_or 0 (incoming_nodes g y)) x y s.into
    (of-mem-ins g (head_or 0 (incoming_nodes g y)) y m) s.edge in
    rw (s.into, e, s.out) (and_right (eqb (out_degree g y) 1) _ (le-ltb 1 1 (omega arith)))
  where
    long : length (incoming_nodes g y) ≡ in_degree g y
    long = unfold incoming_nodes in_degree in length-map (edges_into g y) (λ (e : Edge). e.from)

-- clauses of the trace
trace-yes : (g : Graph) (fuel x : ℕ) → chain_goes_on g x (next_in_chain g x) ≡ true → trace_linear_chain (suc fuel) g x ≡ next_in_chain g x
    ∷ trace_linear_chain fuel g (next_in_chain g x)
unfolding trace_linear_chain
trace-yes g fuel x t = rw (t, trace_linear_chain)

trace-no : (g : Graph) (fuel x : ℕ) → chain_goes_on g x (next_in_chain g x) ≡ false → trace_linear_chain (suc fuel) g x ≡ []
unfolding trace_linear_chain
trace-no g fuel x t = rw (t, trace_linear_chain)

-- a trace that does not use up the fuel is whole
pub trace-whole : (g : Graph) (fuel x : ℕ) → length (trace_linear_chain fuel g x) < fuel → WholeChain g x (trace_linear_chain fuel g x)
trace-whole g zero x h = absurd (not-suc-le-zero h)
trace-whole g (suc fuel) x h = by_test (chain_goes_on g x (next_in_chain g x))
    (λ t. rw (trace-yes g fuel x t) (refl, t, trace-whole g fuel (next_in_chain g x) (le_of_suc-le-suc (rw (trace-yes g fuel x t) at h))))
    (λ t. rw (trace-no g fuel x t) t)

pub whole-trace : (g : Graph) (x : ℕ) (ys : List ℕ) (fuel : ℕ) → length ys < fuel → WholeChain g x ys → trace_linear_chain fuel g x ≡ ys
whole-trace g x ys zero h w = absurd (not-suc-le-zero h)
whole-trace g x [] (suc fuel) h w = trace-no g fuel x w
whole-trace g x (y ∷ ys) (suc fuel) h (e, t, w) =
    trace-yes g fuel x (rw (← e) t) ∙ (λ i. sym e i ∷ (ap (trace_linear_chain fuel g) (sym e) ∙ whole-trace g y ys fuel (le_of_suc-le-suc h) w) i)

module _ (g : Graph) (h : Sound g) where
  pub chained-below : (x : ℕ) (ys : List ℕ) → x < node_count g → Chained g x ys → (v : ℕ) → Memᴰ v (x ∷ ys) → v < node_count g
  chained-below x ys l c v m = ⊎_elim (λ (i : v ≡ x). rw i l) (λ n. let z = pred_in g h.bounded h.rank h.ranks x ys c v n in
      rw z.1.3 at (h.bounded z.1.0 z.1.1).1) (Memᴰ.cases_cons m)

  pub chained-length : (x : ℕ) (ys : List ℕ) → x < node_count g → Chained g x ys → length ys < node_count g
  chained-length x ys l c = distinct-length (node_count g) (x ∷ ys) (distinct-chain g h.bounded h.rank h.ranks x ys c) (chained-below x ys l c)

-- what linear_chain says
pub linear-start : (g : Graph) (s : ℕ) (v : ℕ) (vs : List ℕ) → linear_chain g s ≡ v ∷ vs → (s < node_count g) × (is_linear_chain_start g s ≡ true)
unfolding linear_chain
linear-start g s v vs e = by_test (ltb s (node_count g) && is_linear_chain_start g s)
    (λ t. let a = and_split _ _ t in (ltb-true _ _ a.0, a.1))
    (λ t. absurd (omega (arith, bad t)))
  where
    bad : (ltb s (node_count g) && is_linear_chain_start g s) ≡ false → ◌≡◌ {A = ℕ} 0 1
    bad t = let d : ◌≡◌ {A = List ℕ} [] (v ∷ vs) = rw (t, linear_chain) at e in cc

pub linear-yes : (g : Graph) (s : ℕ) → s < node_count g → is_linear_chain_start g s ≡ true → linear_chain g s ≡ trace_linear_chain (node_count g) g s
unfolding linear_chain
linear-yes g s l t = let u : (ltb s (node_count g) && is_linear_chain_start g s) ≡ true = rw (lt-ltb s (node_count g) l) t in rw (u, linear_chain)

-- the chain of a start is whole
pub linear-whole : (g : Graph) → Sound g → (s : ℕ) → s < node_count g → is_linear_chain_start g s ≡ true → WholeChain g s (linear_chain g s)
linear-whole g h s l t =
    rw (linear-yes g s l t) (trace-whole g (node_count g) s
    (chained-length g h s (trace_linear_chain (node_count g) g s) l (Rattle.laws.proofs.ZipLaws.chained-after g (node_count g) s)))

-- and the whole chain of a start is linear_chain
pub whole-linear : (g : Graph) → Sound g → (s : ℕ) (ys : List ℕ) → s < node_count g → is_linear_chain_start g s ≡ true → WholeChain g s ys → linear_chain g s ≡ ys
whole-linear g h s ys l t w = linear-yes g s l t ∙ whole-trace g s ys (node_count g) (chained-length g h s ys l (whole-chained g s ys w)) w
