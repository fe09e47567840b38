-- The walk along the reference path. Assumes nothing.
use mathlib.Core.Path.{◌≡◌, refl, sym, ap, ◌∙◌}
use mathlib.Core.Bool.{Bool, true, false}
use mathlib.Core.Logic.{⊎_elim}
use mathlib.Core.Option.{Option, none, some}
use mathlib.Core.List.{List, [], ◌∷◌, ◌++◌, Memᴰ}
use Prim.Native.Nat.{ℕ, zero, suc, ◌+◌, ◌-◌, ◌≤◌, ◌<◌}
use native.Mathlib.Omega.{arith}
use lib.ListN.{length, get_or, set, length-set, length-append}
use lib.Dec.{eqb}
use borrow.Author.Tests.{eqb-true, eq-eqb, ne_eqb}
use Rattle.defs.specs.Lists.{keep_if, given}
use Rattle.defs.specs.SeqGraph.{Edge, Graph, node_count, edges_from}
use Rattle.defs.specs.Strings.{HasEdge, IsPath}
use Rattle.defs.specs.Paths.{first_to, next_on_reference, prepend, reference_path}
use Rattle.laws.proofs.Walks.{by_test}
use Rattle.laws.proofs.Whole.{by_option}
use Rattle.laws.proofs.ListLaws.{of-keep_if, given-some}
use Rattle.laws.proofs.Nets.{Bounded}
use Rattle.laws.proofs.Sound.{Sound}
use Rattle.tabs.proofs.Tabs.{length-tab, tab-zero}
use Rattle.store.specs.Store.{graph_in, nums_in}
use Rattle.compact.proofs.CompactLaws.{order-in}
use Rattle.index.proofs.IndexLaws.{nums-push}
use Rattle.paths.proofs.RouteLaws.{path-short}
use Rattle.refs.specs.Refs.{vertex_of}
use Rattle.reference.specs.Reference.{NextOn, PathWalked}
use Rattle.std.specs.Prelude.{Some, None}
use Rattle.std.specs.Prelude as std

-- ---- the definition, step by step

module _ (fuel : ℕ) (g : Graph) (sink v : ℕ) where
  ref-here : eqb v sink ≡ true → reference_path (suc fuel) g sink v ≡ some (v ∷ [])
  unfolding reference_path
  ref-here t = rw (t, reference_path)

  ref-none : eqb v sink ≡ false → next_on_reference g v ≡ none → reference_path (suc fuel) g sink v ≡ none
  unfolding reference_path
  ref-none t q = rw (t, q, reference_path)

  ref-step : (w : ℕ) → eqb v sink ≡ false → next_on_reference g v ≡ some w → reference_path (suc fuel) g sink v ≡ prepend v (reference_path fuel g sink w)
  unfolding reference_path
  ref-step w t q = rw (t, q, reference_path)

-- ---- it is a path

first-mem : (l : List Edge) (w : ℕ) → first_to l ≡ some w → (e : Edge) × Memᴰ e l × (e.to ≡ w)
unfolding first_to
first-mem [] w q = absurd (let z : ◌≡◌ {A = ℕ} 0 1 = cc in omega arith)
first-mem (e ∷ l) w q = (e, mathlib.Core.List.Memᴰ.head refl, cc)

next_edge : (g : Graph) (v w : ℕ) → next_on_reference g v ≡ some w → HasEdge g v w
unfolding next_on_reference edges_from
next_edge g v w q =
    let x = first-mem (keep_if (λ e. e.is_ref) (edges_from g v) ++ edges_from g v) w q in
    let a : Memᴰ x.0 (edges_from g v) = ⊎_elim (λ k. (of-keep_if (λ (e : Edge). e.is_ref) (edges_from g v) k).0) (λ k.
    k) (mathlib.Core.List.Memᴰ.append_cases (keep_if (λ e. e.is_ref) (edges_from g v)) x.1) in
    let b = of-keep_if (λ (e : Edge). eqb e.from v) g.edges a in
    (x.0, b.0, eqb-true x.0.from v b.1, x.2)

prepend-some : (v : ℕ) (o : Option (List ℕ)) (ws : List ℕ) → prepend v o ≡ some ws → (ys : List ℕ) × (o ≡ some ys) × (ws ≡ v ∷ ys)
unfolding prepend
prepend-some v none ws q = absurd (let z : ◌≡◌ {A = ℕ} 0 1 = cc in omega arith)
prepend-some v (some ys) ws q = (ys, refl, cc)

abbrev Begun : Graph → ℕ → List ℕ → Type 0
Begun g v ws = (rest : List ℕ) × (ws ≡ v ∷ rest) × IsPath g v rest

begun-step : (g : Graph) (v w : ℕ) (ws ys : List ℕ) → v < node_count g → HasEdge g v w → ws ≡ v ∷ ys → Begun g w ys → Begun g v ws
begun-step g v w ws ys b e q (rest, r, path) = (w ∷ rest, q ∙ ap (λ (l : List ℕ). v ∷ l) r, (b, e, path))

pub reference-begun : (g : Graph) → Bounded g → (fuel sink v : ℕ) (ws : List ℕ) → v < node_count g → reference_path fuel g sink v ≡ some ws → Begun g v ws
unfolding reference_path
reference-begun g bounded zero sink v ws b q = ([], sym (given-some (eqb v sink) (v ∷ []) ws q).1, b)
reference-begun g bounded (suc fuel) sink v ws b q = by_test (eqb v sink)
    (λ t. ([], cc (ref-here fuel g sink v t), b))
    (λ t. by_option (next_on_reference g v)
    (λ o. absurd (let n = ref-none fuel g sink v t o in let z : ◌≡◌ {A = ℕ} 0 1 = cc in omega arith))
    (λ w o. let e = next_edge g v w o in
    let x = prepend-some v (reference_path fuel g sink w) ws (sym (ref-step fuel g sink v w t o) ∙ q) in
    begun-step g v w ws x.0 b e x.2 (reference-begun g bounded fuel sink w x.0 (rw e.3 at (bounded e.0 e.1).1) x.1)))

-- ---- the loop

-- the vertices passed, before what is still to come
unfoldable pub prepends : List ℕ → Option (List ℕ) → Option (List ℕ)
prepends [] o = o
prepends (x ∷ xs) o = prepend x (prepends xs o)

prepends-snoc : (xs : List ℕ) (v : ℕ) (o : Option (List ℕ)) → prepends (xs ++ (v ∷ [])) o ≡ prepends xs (prepend v o)
unfolding prepends
prepends-snoc [] v o = refl
prepends-snoc (x ∷ xs) v o = ap (prepend x) (prepends-snoc xs v o)

prepends-some : (xs ys : List ℕ) → prepends xs (some ys) ≡ some (xs ++ ys)
unfolding prepends prepend
prepends-some [] ys = refl
prepends-some (x ∷ xs) ys = ap (prepend x) (prepends-some xs ys)

prepends-none : (xs : List ℕ) → prepends xs none ≡ none
unfolding prepends prepend
prepends-none [] = refl
prepends-none (x ∷ xs) = ap (prepend x) (prepends-none xs)

pub record WalkingPath (m n : ℕ) (es : List ℕ) (source sink : ℕ) (nodes₀ nodes : List ℕ) (v c : ℕ) : Type 0 where
  pub high : c ≤ n
  pub below : v < n
  pub source-below : source < n
  pub len : length nodes ≡ length nodes₀
  pub is : (k : ℕ) (vs p : List ℕ) → reference_path n (graph_in k n m es vs p) sink source
      ≡ prepends (nums_in c nodes) (reference_path (n - c) (graph_in k n m es vs p) sink v)

module _ {m n : ℕ} {es : List ℕ} {source sink : ℕ} {nodes₀ : List ℕ} where
  pub walking_start : source < n → WalkingPath m n es source sink nodes₀ nodes₀ source 0
  unfolding prepends
  walking_start h =
      let z : n - 0 ≡ n = omega arith in
      record {
        high = omega arith;
        below = h;
        source-below = h;
        len = refl;
        is = λ k vs p. sym (ap (λ (l : List ℕ). prepends l (reference_path (n - 0) (graph_in k n m es vs p) sink source))
            (tab-zero (λ (i : ℕ). get_or nodes₀ i 0)) ∙ ap (λ (x : ℕ). reference_path x (graph_in k n m es vs p) sink source) z);
      }

  module _ {nodes : List ℕ} {v c : ℕ} (W : WalkingPath m n es source sink nodes₀ nodes v c) (room : n ≤ length nodes₀) (h : c < n) where
    pushed : nums_in (c + 1) (set nodes c v) ≡ nums_in c nodes ++ (v ∷ [])
    pushed = nums-push c v nodes (omega (arith, W.len))

    fuel-is : n - c ≡ suc (n - (c + 1))
    fuel-is = omega arith

    left_is : (k : ℕ) (vs p : List ℕ) → reference_path n (graph_in k n m es vs p) sink source
        ≡ prepends (nums_in c nodes) (reference_path (suc (n - (c + 1))) (graph_in k n m es vs p) sink v)
    left_is k vs p = W.is k vs p ∙ ap (λ (x : ℕ). prepends (nums_in c nodes) (reference_path x (graph_in k n m es vs p) sink v)) fuel-is

    pub walking-there : v ≡ sink → PathWalked m n es source sink (Some (c + 1)) (set nodes c v)
    walking-there q = record {
      is = λ k vs p s. sym (left_is k vs p ∙ ap (prepends (nums_in c nodes))
          (ref-here (n - (c + 1)) (graph_in k n m es vs p) sink v (eq-eqb v sink q)) ∙ prepends-some (nums_in c nodes) (v ∷ [])
          ∙ ap some (sym pushed));
      most = λ d e. let z : d ≡ c + 1 = cc in omega arith;
    }

    pub walking-stuck : {r : std.Option ℕ} (nodes' : List ℕ) → (v ≡ sink → ⊥) → NextOn m n es v r → r ≡ None → PathWalked m n es source sink None nodes'
    walking-stuck nodes' q N b = record {
      is = λ k vs p s. sym (left_is k vs p ∙ ap (prepends (nums_in c nodes))
          (ref-none (n - (c + 1)) (graph_in k n m es vs p) sink v (ne_eqb v sink q) (sym (N.is k vs p) ∙ ap vertex_of b))
          ∙ prepends-none (nums_in c nodes));
      most = λ d e. absurd (let z : ◌≡◌ {A = ℕ} 0 1 = cc in omega arith);
    }

    pub walking-more : {r : std.Option ℕ} {w : ℕ} → (v ≡ sink → ⊥) → NextOn m n es v r → r ≡ Some w
        → WalkingPath m n es source sink nodes₀ (set nodes c v) w (c + 1)
    walking-more {w = w} q N b = record {
      high = omega arith;
      below = N.below w b;
      source-below = W.source-below;
      len = length-set nodes c v ∙ W.len;
      is = λ k vs p. left_is k vs p ∙ ap (prepends (nums_in c nodes))
          (ref-step (n - (c + 1)) (graph_in k n m es vs p) sink v w (ne_eqb v sink q) (sym (N.is k vs p) ∙ ap vertex_of b))
          ∙ sym (prepends-snoc (nums_in c nodes) v (reference_path (n - (c + 1)) (graph_in k n m es vs p) sink w))
          ∙ ap (λ (l : List ℕ). prepends l (reference_path (n - (c + 1)) (graph_in k n m es vs p) sink w)) (sym pushed);
    }

  -- n vertices are passed, and there is none left that the path could end at
  pub walking-end : {nodes : List ℕ} {v c : ℕ} → WalkingPath m n es source sink nodes₀ nodes v c → n ≤ c → PathWalked m n es source sink None nodes
  walking-end {nodes} {v} {c} W h = record {
    is = λ k vs p s. sym (stop k vs p s);
    most = λ d e. absurd (let z : ◌≡◌ {A = ℕ} 0 1 = cc in omega arith);
  }
    where
      last : (k : ℕ) (vs p : List ℕ) → reference_path n (graph_in k n m es vs p) sink source ≡ prepends (nums_in c nodes) (given (eqb v sink) (v ∷ []))
      last k vs p = let z : n - c ≡ 0 = omega arith in W.is k vs p
          ∙ ap (λ (x : ℕ). prepends (nums_in c nodes) (reference_path x (graph_in k n m es vs p) sink v)) z ∙ unfold reference_path in refl

      stop : (k : ℕ) (vs p : List ℕ) → Sound (graph_in k n m es vs p) → reference_path n (graph_in k n m es vs p) sink source ≡ none
      stop k vs p s = by_test (eqb v sink)
          (λ t. absurd (too_long (last k vs p ∙ ap (λ (b : Bool). prepends (nums_in c nodes) (given b (v ∷ []))) t ∙ unfold given in
          (prepends-some (nums_in c nodes) (v ∷ [])))))
          (λ t. last k vs p ∙ ap (λ (b : Bool). prepends (nums_in c nodes) (given b (v ∷ []))) t ∙ unfold given in (prepends-none (nums_in c nodes)))
        where
          too_long : reference_path n (graph_in k n m es vs p) sink source ≡ some (nums_in c nodes ++ (v ∷ [])) → ⊥
          too_long q =
              let B = reference-begun (graph_in k n m es vs p) s.bounded n sink source (nums_in c nodes ++ (v ∷ []))
              (omega (arith, W.source-below, order-in k n m es vs p)) q in
              omega (
                arith,
                path-short (graph_in k n m es vs p) s source B.0 B.2,
                ap length B.1,
                length-append (nums_in c nodes) (v ∷ []),
                length-tab c (λ (i : ℕ). get_or nodes i 0),
                order-in k n m es vs p,
              )
