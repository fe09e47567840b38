-- The new vertex takes over the edges of its predecessors and of the bottom. Assumes nothing.
use mathlib.Core.Path.{◌≡◌, refl, sym, ap, ◌∙◌}
use mathlib.Core.List.{List, [], ◌∷◌, ◌++◌, map, map-append, Memᴰ}
use Prim.Native.Nat.{ℕ, ◌+◌, ◌-◌, ◌≤◌, ◌<◌}
use native.Mathlib.Omega.{arith}
use lib.ListN.{length, get_or}
use Rattle.defs.specs.Lists.{tab, concat}
use Rattle.defs.specs.SeqGraph.{Edge, add_or_update_edges}
use Rattle.laws.proofs.Merge.{of-mem-flat}
use Rattle.laws.proofs.SplitCounts.{raise_all-append}
use Rattle.tabs.proofs.Tabs.{tab-snoc, tab-zero}
use Rattle.tabs.proofs.ListTabs.{tab-append, raise_all-none, mem-tab}
use Rattle.tabs.proofs.SumTabs.{concat-append, concat-snoc}
use Rattle.store.specs.Store.{edge_in, edges_in, nums_in}
use Rattle.compact.proofs.CompactLaws.{ends-mem}
use Rattle.redirect.specs.Redirect.{redirected_all, EdgeMarks, Redirectable, Redirected}
use Rattle.redirect.proofs.RaiseLaws.{raise_all-longer, raise_all-ends}
use Rattle.redirect.proofs.RedirectLaws.{marks-start}
use Rattle.redirect.proofs.SameLaws.{all_same, indexed-same, into-ends}
use Rattle.index.proofs.IndexLaws.{end-first}
use Rattle.merge_suffices.specs.Merge.{new_into, merge_edges, IntoReady, IntoDone, MergeEdgesReady, MergeEdgesDone}

-- ---- the lists of new edges

into-none : (n m : ℕ) (es nodes : List ℕ) → new_into n m es nodes 0 ≡ []
unfolding concat
into-none n m es nodes = ap (λ (l : List ℕ). concat (map (redirected_all 1 n m es) l)) (tab-zero (λ (i : ℕ). get_or nodes i 0))

into_more : (n m : ℕ) (es nodes : List ℕ) (i : ℕ) → new_into n m es nodes (i + 1) ≡ new_into n m es nodes i ++ redirected_all 1 n m es (get_or nodes i 0)
into_more n m es nodes i =
    ap (λ (l : List ℕ). concat (map (redirected_all 1 n m es) l)) (tab-snoc i (λ (j : ℕ). get_or nodes j 0))
    ∙ ap concat (map-append (redirected_all 1 n m es) (nums_in i nodes) (get_or nodes i 0 ∷ []))
    ∙ concat-snoc (map (redirected_all 1 n m es) (nums_in i nodes)) (redirected_all 1 n m es (get_or nodes i 0))

into-most : (n m : ℕ) (es nodes : List ℕ) (i d : ℕ) (l : List Edge)
    → length (add_or_update_edges (new_into n m es nodes i) l) ≤ length (add_or_update_edges (new_into n m es nodes (i + d)) l)
into-most n m es nodes i d l =
    let q = ap (λ (x : List ℕ). concat (map (redirected_all 1 n m es) x)) (tab-append i d (λ (j : ℕ). get_or nodes j 0))
    ∙ ap concat (map-append (redirected_all 1 n m es) (nums_in i nodes) (tab d (λ (j : ℕ). get_or nodes (i + j) 0)))
    ∙ concat-append (map (redirected_all 1 n m es) (nums_in i nodes)) (map (redirected_all 1 n m es) (tab d (λ (j : ℕ). get_or nodes (i + j) 0))) in
    let r = concat (map (redirected_all 1 n m es) (tab d (λ (j : ℕ). get_or nodes (i + j) 0))) in
    omega (
      arith,
      ap (λ (x : List Edge). length (add_or_update_edges x l)) q,
      ap length (raise_all-append (new_into n m es nodes i) r l),
      raise_all-longer r (add_or_update_edges (new_into n m es nodes i) l),
    )

-- ---- the loop over the predecessors

pub record TakingPredecessors (n m : ℕ) (es₀ mp₀ nodes : List ℕ) (c k : ℕ) (es mp : List ℕ) (i : ℕ) : Type 0 where
  pub high : i ≤ c
  pub len : length es ≡ length es₀
  pub mp-len : length mp ≡ length mp₀
  pub is : edges_in k es ≡ add_or_update_edges (new_into n m es₀ nodes i) (edges_in m es₀)
  pub old : (j : ℕ) → j < m → edge_in es j ≡ edge_in es₀ j
  pub marks : EdgeMarks 1 n n m k es mp

module _ {n m : ℕ} {es₀ heads nexts nodes : List ℕ} {c : ℕ} {mp₀ : List ℕ} (F : IntoReady n m es₀ heads nexts nodes c mp₀) where
  pub taking-start : TakingPredecessors n m es₀ mp₀ nodes c m es₀ mp₀ 0
  taking-start = record {
    high = omega arith;
    len = refl;
    mp-len = refl;
    is = sym (ap (λ (x : List Edge). add_or_update_edges x (edges_in m es₀)) (into-none n m es₀ nodes) ∙ raise_all-none (edges_in m es₀));
    old = λ j b. refl;
    marks = F.marks;
  }

  module _ {k : ℕ} {es mp : List ℕ} {i : ℕ} (T : TakingPredecessors n m es₀ mp₀ nodes c k es mp i) where
    module _ (h : i < c) where
      next-is : add_or_update_edges (redirected_all 1 n m es (get_or nodes i 0)) (edges_in k es) ≡ add_or_update_edges (new_into n m es₀ nodes (i + 1)) (edges_in m es₀)
      next-is =
          (λ j. add_or_update_edges (all_same m es₀ es T.old 1 n (get_or nodes i 0) (omega arith) j) (T.is j))
          ∙ sym (raise_all-append (new_into n m es₀ nodes i) (redirected_all 1 n m es₀ (get_or nodes i 0)) (edges_in m es₀))
          ∙ ap (λ (x : List Edge). add_or_update_edges x (edges_in m es₀)) (sym (into_more n m es₀ nodes i))

      next-most : length (add_or_update_edges (redirected_all 1 n m es (get_or nodes i 0)) (edges_in k es)) ≤ length
          (add_or_update_edges (new_into n m es₀ nodes c) (edges_in m es₀))
      next-most =
          let q : i + 1 + (c - (i + 1)) ≡ c = omega arith in
          omega (
            arith,
            ap length next-is,
            into-most n m es₀ nodes (i + 1) (c - (i + 1)) (edges_in m es₀),
            ap (λ (x : ℕ). length (add_or_update_edges (new_into n m es₀ nodes x) (edges_in m es₀))) q,
          )

      pub taking-ready : Redirectable 1 n n m m k es heads nexts mp (get_or nodes i 0)
      taking-ready = record {
        off-low = omega arith;
        below = F.prevs.at i h;
        new = omega arith;
        behind = T.marks.low;
        indexed = indexed-same m es₀ es T.old T.len F.indexed;
        marks = T.marks;
        room = omega (arith, next-most, F.roomy.room, T.len);
        small = omega (arith, next-most, F.roomy.small);
      }

      pub taking-more : {k' : ℕ} {es' mp' : List ℕ} → Redirected 1 n n m m k es (get_or nodes i 0) k' es' mp' → length es' ≡ length es
          → length mp' ≡ length mp → TakingPredecessors n m es₀ mp₀ nodes c k' es' mp' (i + 1)
      taking-more D a b = record {
        high = omega arith;
        len = a ∙ T.len;
        mp-len = b ∙ T.mp-len;
        is = D.is ∙ next-is;
        old = λ j d. D.old j d ∙ T.old j d;
        marks = D.marks;
      }

    pub taking-end : c ≤ i → IntoDone n m es₀ nodes c k es mp
    taking-end h = let q : i ≡ c = omega (arith, T.high) in record {
      is = T.is ∙ ap (λ (x : ℕ). add_or_update_edges (new_into n m es₀ nodes x) (edges_in m es₀)) q;
      old = T.old;
      marks = T.marks;
    }

-- ---- both lists

module _ {n m : ℕ} {es heads nexts nodes : List ℕ} {c bottom : ℕ} {mp₀ : List ℕ} (F : MergeEdgesReady n m es heads nexts nodes c bottom mp₀) where
  both_is : add_or_update_edges (merge_edges n m es nodes c bottom) (edges_in m es)
      ≡ add_or_update_edges (redirected_all 0 n m es bottom) (add_or_update_edges (new_into n m es nodes c) (edges_in m es))
  both_is = raise_all-append (new_into n m es nodes c) (redirected_all 0 n m es bottom) (edges_in m es)

  pub into-ready : {mp : List ℕ} → length mp ≡ length mp₀ → ((x : ℕ) → x < n → get_or mp x 0 ≡ 0) → IntoReady n m es heads nexts nodes c mp
  into-ready {mp} l z = record {
    indexed = F.indexed;
    prevs = F.prevs;
    marks = marks-start 1 n n m es mp (omega arith) (omega (arith, F.mp-room)) (λ x b. omega (arith, z x b)) (λ j b q.
        omega (arith, q, F.indexed.ends.at j b));
    roomy = record { room = omega (arith, most, F.roomy.room); small = omega (arith, most, F.roomy.small); n-small = F.roomy.n-small };
  }
    where
      most : length (add_or_update_edges (new_into n m es nodes c) (edges_in m es)) ≤ length (add_or_update_edges (merge_edges n m es nodes c bottom) (edges_in m es))
      most = omega (arith, ap length both_is, raise_all-longer (redirected_all 0 n m es bottom) (add_or_update_edges (new_into n m es nodes c) (edges_in m es)))

  module _ {k : ℕ} {es₁ mp : List ℕ} (D : IntoDone n m es nodes c k es₁ mp) where
    last-is : add_or_update_edges (redirected_all 0 n m es₁ bottom) (edges_in k es₁) ≡ add_or_update_edges (merge_edges n m es nodes c bottom) (edges_in m es)
    last-is = (λ j. add_or_update_edges (all_same m es es₁ D.old 0 n bottom (omega arith) j) (D.is j)) ∙ sym both_is

    old-from : (e : Edge) → Memᴰ e (edges_in k es₁) → e.from < n
    old-from e b = raise_all-ends (λ x y. x < n) (new_into n m es nodes c) (edges_in m es)
        (λ d o. (ends-mem F.indexed.ends d o).0)
        (λ d o. let z = of-mem-flat (redirected_all 1 n m es) (nums_in c nodes) o in (into-ends F.indexed.ends n z.0 d z.2).0)
        e (rw D.is at b)

    pub out-ready : length es₁ ≡ length es → Redirectable 0 n n k m k es₁ heads nexts mp bottom
    out-ready l = record {
      off-low = omega arith;
      below = F.below;
      new = omega arith;
      behind = D.marks.low;
      indexed = indexed-same m es es₁ D.old l F.indexed;
      marks = marks-start 0 n n k es₁ mp (omega arith) D.marks.room D.marks.most (λ j b q.
          omega (arith, old-from (edge_in es₁ j) (mem-tab k (edge_in es₁) j b), sym (end-first es₁ j) ∙ q));
      room = omega (arith, ap length last-is, F.roomy.room, l);
      small = omega (arith, ap length last-is, F.roomy.small);
    }

    pub edges-done : {r : ℕ} {es₂ mp₂ : List ℕ} → Redirected 0 n n k m k es₁ bottom r es₂ mp₂ → MergeEdgesDone n m es nodes c bottom r es₂
    edges-done R = record { is = R.is ∙ last-is }
