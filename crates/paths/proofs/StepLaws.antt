-- A path's edges, looked up one after the other. Assumes nothing.
use mathlib.Core.Path.{◌≡◌, refl, sym, ap, ◌∙◌}
use mathlib.Core.Bool.{Bool, true, false, ◌&&◌}
use mathlib.Core.List.{List, [], ◌∷◌}
use Prim.Native.Nat.{ℕ, ◌+◌, ◌*◌, ◌-◌, ◌≤◌, ◌<◌}
use native.Mathlib.Nat.{add-zero}
use native.Mathlib.Omega.{arith}
use lib.ListN.{length, get_or, take, drop}
use Rattle.std.proofs.lemmas.List.{take_all}
use lib.Dec.{eqb}
use borrow.Author.Tests.{lt-ltb, le-ltb, eq-eqb, ne_eqb}
use Rattle.defs.specs.Lists.{keep_if, any_of}
use Rattle.defs.specs.SeqGraph.{Edge, Graph, has_ends, edges_from}
use Rattle.defs.specs.Paths.{is_edge_path, is_path_of}
use Rattle.laws.proofs.Walks.{by_test}
use Rattle.laws.proofs.ListLaws.{keep_if-yes, keep_if-no, and_split, any-yes, any-no, any-map}
use Rattle.laws.proofs.Cycles.{any_of-true}
use Rattle.laws.proofs.Edges.{joins-ends}
use Rattle.store.specs.Store.{edge_in, edges_in, graph_in, EndsBelow}
use Rattle.compact.proofs.CompactLaws.{order-in, ends-mem}
use Rattle.index.specs.Index.{edge_end, incident_edges, Index, Indexed}
use Rattle.index.proofs.IndexLaws.{from_is}
use Rattle.paths.specs.Paths.{EdgePath}

-- ---- an edge, among those that leave its first end

-- a test of both ends is a test of the other end of those that pass the first
any-kept : (u v : ℕ) (l : List Edge) → any_of (has_ends u v) l ≡ any_of (λ (e : Edge). eqb e.to v) (keep_if (λ (e : Edge). eqb e.from u) l)
unfolding has_ends
any-kept u v [] = unfold any_of keep_if in refl
any-kept u v (e ∷ l) = by_test (eqb e.from u)
    (λ t. by_test (eqb e.to v)
    (λ s. any-yes (has_ends u v) e l (rw (t, s)) ∙ sym (ap (any_of (λ (e : Edge). eqb e.to v))
    (keep_if-yes (λ (e : Edge). eqb e.from u) e l t) ∙ any-yes (λ (e : Edge). eqb e.to v) e
    (keep_if (λ (e : Edge). eqb e.from u) l) s))
    (λ s. any-no (has_ends u v) e l (rw (t, s)) ∙ any-kept u v l
    ∙ sym (ap (any_of (λ (e : Edge). eqb e.to v)) (keep_if-yes (λ (e : Edge). eqb e.from u) e l t)
    ∙ any-no (λ (e : Edge). eqb e.to v) e (keep_if (λ (e : Edge). eqb e.from u) l) s)))
    (λ t. any-no (has_ends u v) e l (rw t) ∙ any-kept u v l ∙ ap (any_of (λ (e : Edge). eqb e.to v)) (sym (keep_if-no (λ (e : Edge). eqb e.from u) e l t)))

-- whether edge e enters v
abbrev pub enters_at : List ℕ → ℕ → ℕ → Bool
enters_at es v e = eqb (get_or es (4 * e + 1) 0) v

pub any-ends : (m : ℕ) (es : List ℕ) (u v : ℕ) → any_of (enters_at es v) (incident_edges (edge_end 0 es) m u) ≡ any_of (has_ends u v) (edges_in m es)
unfolding edges_from
any-ends m es u v = sym (any-kept u v (edges_in m es) ∙ ap (any_of (λ (e : Edge). eqb e.to v)) (from_is 0 0 m es [] [] u)
    ∙ any-map (λ (e : Edge). eqb e.to v) (edge_in es) (incident_edges (edge_end 0 es) m u))

-- the index over the edges out of each vertex, where the code reads it
pub out-index : {m n : ℕ} {es heads nexts : List ℕ} → Indexed m n es heads nexts
    → Index (edge_end 0 es) m n (λ (v : ℕ). get_or heads (2 * v) 0) (λ (e : ℕ). get_or nexts (2 * e) 0)
out-index I = let J = I.index 0 (omega arith) in record {
  heads = λ v h. rw (add-zero (2 * v)) at (J.heads v h);
  nexts = λ e h. rw (add-zero (2 * e)) at (J.nexts e h);
}

pub enters-yes : {x : ℕ} (y v : ℕ) → x ≡ y → x ≡ v → eqb y v ≡ true
enters-yes y v q h = eq-eqb y v (sym q ∙ h)

pub enters-no : {x : ℕ} (y v : ℕ) → x ≡ y → (x ≡ v → ⊥) → eqb y v ≡ false
enters-no y v q h = ne_eqb y v (λ z. h (q ∙ z))

-- ---- the list, pair by pair

-- the first two, and what is behind them
pub first-two : (l : List ℕ) → 2 ≤ length l → l ≡ get_or l 0 0 ∷ get_or l 1 0 ∷ take (length l - 2) (drop 2 l)
first-two [] h = absurd (omega arith)
first-two (a ∷ []) h = absurd (omega arith)
first-two (a ∷ b ∷ l) h = ap (λ (r : List ℕ). a ∷ b ∷ r) (sym (take_all (length (a ∷ b ∷ l) - 2) l (omega arith)))

module _ (g : Graph) (v : ℕ) where
  path-none : {l : List ℕ} → l ≡ [] → is_edge_path g v l ≡ true
  unfolding is_edge_path
  path-none q = rw q

  path-odd : {l : List ℕ} (a : ℕ) → l ≡ a ∷ [] → is_edge_path g v l ≡ false
  unfolding is_edge_path
  path-odd a q = rw q

  path-yes : {l : List ℕ} (a b : ℕ) (rest : List ℕ) → l ≡ a ∷ b ∷ rest → eqb a v && any_of (has_ends a b) g.edges ≡ true → is_edge_path g v l
      ≡ is_edge_path g b rest
  unfolding is_edge_path
  path-yes a b rest q t = let s = and_split (eqb a v) (any_of (has_ends a b) g.edges) t in rw (q, s.0, s.1)

  path-no : {l : List ℕ} (a b : ℕ) (rest : List ℕ) → l ≡ a ∷ b ∷ rest → eqb a v && any_of (has_ends a b) g.edges ≡ false → is_edge_path g v l ≡ false
  unfolding is_edge_path
  path-no a b rest q t = ap (is_edge_path g v) q ∙ fails (eqb a v) (any_of (has_ends a b) g.edges) (is_edge_path g b rest) t
    where
      fails : (x y z : Bool) → x && y ≡ false → x && (y && z) ≡ false
      fails true y z h = rw h
      fails false y z h = refl

-- what is left of the list is to be a path from `at`
pub record Following (m n : ℕ) (es : List ℕ) (start : ℕ) (list : List ℕ) (at : ℕ) (rest : List ℕ) : Type 0 where
  pub start-below : start < n
  pub below : at < n
  pub left : (k : ℕ) (vs p : List ℕ) → is_edge_path (graph_in k n m es vs p) start list ≡ is_edge_path (graph_in k n m es vs p) at rest

pub path-outside : (m n : ℕ) (es : List ℕ) (start : ℕ) (list : List ℕ) → n ≤ start → EdgePath m n es start list false
unfolding is_path_of
path-outside m n es start list h = record { is = λ k vs p. sym (rw (order-in k n m es vs p, le-ltb start n h)) }

module _ {m n : ℕ} {es : List ℕ} {start : ℕ} {list : List ℕ} where
  pub following-start : start < n → Following m n es start list start list
  following-start h = record { start-below = h; below = h; left = λ k vs p. refl }

  following-answer : {at : ℕ} {rest : List ℕ} {r : Bool} → Following m n es start list at rest
      → ((k : ℕ) (vs p : List ℕ) → is_edge_path (graph_in k n m es vs p) at rest ≡ r) → EdgePath m n es start list r
  unfolding is_path_of
  following-answer F e = record { is = λ k vs p. sym (rw (order-in k n m es vs p, lt-ltb start n F.start-below) (F.left k vs p ∙ e k vs p)) }

  -- fewer than two numbers are left
  pub following-end : {at : ℕ} (rest : List ℕ) → Following m n es start list at rest → length rest < 2 → EdgePath m n es start list (eqb (length rest) 0)
  following-end {at} [] F h = following-answer F (λ k vs p. path-none (graph_in k n m es vs p) at refl)
  following-end {at} (a ∷ []) F h = following-answer F (λ k vs p. path-odd (graph_in k n m es vs p) at a refl)
  following-end {at} (a ∷ b ∷ rest) F h = absurd (omega arith)

  module _ {at a b : ℕ} {rest later : List ℕ} (F : Following m n es start list at rest) (pair : rest ≡ a ∷ b ∷ later) where
    pub following-no : eqb a at && any_of (has_ends a b) (edges_in m es) ≡ false → EdgePath m n es start list false
    following-no t = following-answer F (λ k vs p. path-no (graph_in k n m es vs p) at a b later pair t)

    pub following-more : EndsBelow n m es → eqb a at && any_of (has_ends a b) (edges_in m es) ≡ true → Following m n es start list b later
    following-more E t = record {
      start-below = F.start-below;
      below = target;
      left = λ k vs p. F.left k vs p ∙ path-yes (graph_in k n m es vs p) at a b later pair t;
    }
      where
        target : b < n
        target =
            let s = and_split (eqb a at) (any_of (has_ends a b) (edges_in m es)) t in
            let x = any_of-true (has_ends a b) (edges_in m es) s.1 in
            omega (arith, (ends-mem E x.0 x.1).1, (joins-ends a b x.0 x.2).1)
