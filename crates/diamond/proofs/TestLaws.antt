-- The tests over the index are the definitions'. Assumes nothing.
use mathlib.Core.Path.{◌≡◌, refl, sym, ap, ◌∙◌, subst}
use mathlib.Core.Bool.{Bool, true, false, ◌&&◌}
use mathlib.Core.List.{List, [], ◌∷◌, map}
use Prim.Native.Nat.{ℕ, zero, suc, ◌+◌, ◌*◌, ◌≤◌, ◌<◌}
use native.Mathlib.Nat.{add-zero, zero-add, suc-add, add-suc, not-suc-le-zero}
use native.Mathlib.Omega.{arith}
use lib.ListN.{length, get_or, take}
use lib.Seq.{get_or-take, length-take-le}
use Rattle.std.specs.Bool.{MatchBool}
use Rattle.std.specs.List.{AllWithin, HoldsAt}
use Rattle.std.proofs.lemmas.List.{get_or_default}
use Rattle.compact.specs.Compact.{Below}
use lib.Dec.{eqb, ltb}
use borrow.Author.Tests.{eq-eqb, ne_eqb, lt-ltb, le-ltb}
use Rattle.defs.specs.Lists.{tab, tab_from, all_of}
use Rattle.defs.specs.SeqGraph.{outgoing_nodes, out_degree, in_degree}
use Rattle.defs.specs.Rewrites.{is_diamond, is_tails}
use Rattle.laws.proofs.Walks.{by_test}
use Rattle.laws.proofs.ListLaws.{all_of-same, all_yes, all-no}
use Rattle.tabs.proofs.Tabs.{length-tab}
use Rattle.store.specs.Store.{nums_in, graph_in}
use Rattle.index.specs.Index.{edge_end, incident_edges, Index, Indexed}
use Rattle.index.proofs.AdjLaws.{ListWalked, walked_more, walked_end, Testing, testing-start, testing-more}
use Rattle.index.proofs.IndexLaws.{out-degree-is, in-degree-is, outgoing-is, pair-first}
use Rattle.diamond.specs.Diamond.{in_count, is_middle, is_tail, Diamond, Tails}

all_of-map : {A B : Type 0} (p : B → Bool) (f : A → B) (l : List A) → all_of p (map f l) ≡ all_of (λ (x : A). p (f x)) l
unfolding all_of
all_of-map p f [] = refl
all_of-map {A} p f (x ∷ xs) = by_test (p (f x))
    (λ t. all_yes p (f x) (map f xs) t ∙ all_of-map p f xs ∙ sym (all_yes (λ (y : A). p (f y)) x xs t))
    (λ t. all-no p (f x) (map f xs) t ∙ sym (all-no (λ (y : A). p (f y)) x xs t))

module _ {A : Type 0} (p : A → Bool) where
  yes-from : (s n : ℕ) (f : ℕ → A) → ((k : ℕ) → k < n → p (f (s + k)) ≡ true) → all_of p (tab_from s n f) ≡ true
  unfolding all_of tab_from
  yes-from s zero f h = refl
  yes-from s (suc n) f h =
      let h' : p (f s) ≡ true = rw add-zero at (h zero (omega arith)) in
      rw (h', all_of) (yes-from (suc s) n f (λ k b. rw (suc-add, ← add-suc) (h (suc k) (omega arith))))

  pub all_of-yes : (n : ℕ) (f : ℕ → A) → ((k : ℕ) → k < n → p (f k) ≡ true) → all_of p (tab n f) ≡ true
  all_of-yes n f h = yes-from zero n f (λ k b. rw zero-add (h k b))

  no-from : (s n : ℕ) (f : ℕ → A) (k : ℕ) → k < n → p (f (s + k)) ≡ false → all_of p (tab_from s n f) ≡ false
  unfolding all_of tab_from
  no-from s zero f k b h = absurd (not-suc-le-zero b)
  no-from s (suc n) f zero b h = let h' : p (f s) ≡ false = rw add-zero at h in rw (h', all_of)
  no-from s (suc n) f (suc k) b h = by_test (p (f s)) (λ t. rw (t, all_of) (no-from (suc s) n f k (omega arith) (rw (suc-add, ← add-suc) h))) (λ t. rw (t, all_of))

  pub all_of-no : (n : ℕ) (f : ℕ → A) (k : ℕ) → k < n → p (f k) ≡ false → all_of p (tab n f) ≡ false
  all_of-no n f k b h = no-from zero n f k b (rw zero-add h)

module _ (k n m : ℕ) (es vs p : List ℕ) where
  middle-is : (b v : ℕ) → is_middle m es b v ≡ (eqb (in_degree (graph_in k n m es vs p) v) 1
      && (ltb 0 (out_degree (graph_in k n m es vs p) v) && all_of (eqb b) (outgoing_nodes (graph_in k n m es vs p) v)))
  middle-is b v = rw (
    in-degree-is k n m es vs p v,
    out-degree-is k n m es vs p v,
    outgoing-is k n m es vs p v,
    all_of-map (eqb b) (edge_end 1 es) (incident_edges (edge_end 0 es) m v),
  ) refl

  tail-is : (v : ℕ) → is_tail m es v ≡ (eqb (out_degree (graph_in k n m es vs p) v) 0 && eqb (in_degree (graph_in k n m es vs p) v) 1)
  tail-is v = rw (in-degree-is k n m es vs p v, out-degree-is k n m es vs p v) refl

  diamond-at : (b : ℕ) (nodes : List ℕ) (c : ℕ) → is_diamond (graph_in k n m es vs p) (nums_in c nodes) b
      ≡ (ltb 1 c && (all_of (is_middle m es b) (nums_in c nodes) && eqb (in_count m es b) c))
  unfolding is_diamond
  diamond-at b nodes c = rw (
    length-tab c (λ (i : ℕ). get_or nodes i 0),
    in-degree-is k n m es vs p b,
    ← all_of-same (is_middle m es b) _ (nums_in c nodes) (λ x _. middle-is b x),
  ) refl

  tails-at : (nodes : List ℕ) (c : ℕ) → is_tails (graph_in k n m es vs p) (nums_in c nodes) ≡ (ltb 1 c && all_of (is_tail m es) (nums_in c nodes))
  unfolding is_tails
  tails-at nodes c = rw (length-tab c (λ (i : ℕ). get_or nodes i 0), ← all_of-same (is_tail m es) _ (nums_in c nodes) (λ x _. tail-is x)) refl

module _ {m n : ℕ} {es nodes : List ℕ} {c : ℕ} where
  pub diamond-few : {b : ℕ} → c < 2 → Diamond m n es nodes c b false
  diamond-few {b} h = record { is = λ k vs p. sym (diamond-at k n m es vs p b nodes c ∙ rw (le-ltb 1 c (omega arith))) }

  pub diamond-not : {b : ℕ} → 2 ≤ c → all_of (is_middle m es b) (nums_in c nodes) ≡ false → Diamond m n es nodes c b false
  diamond-not {b} h t = record { is = λ k vs p. sym (diamond-at k n m es vs p b nodes c ∙ rw (lt-ltb 1 c (omega arith), t)) }

  pub diamond-is : {b : ℕ} {r : Bool} → 2 ≤ c → all_of (is_middle m es b) (nums_in c nodes) ≡ true → r ≡ eqb (in_count m es b) c → Diamond m n es nodes c b r
  diamond-is {b} h t q = record { is = λ k vs p. q ∙ sym (diamond-at k n m es vs p b nodes c ∙ rw (lt-ltb 1 c (omega arith), t)) }

  pub tails-few : {r : Bool} → r ≡ false → c < 2 → Tails m n es nodes c r
  tails-few q h = rw q record { is = λ k vs p. sym (tails-at k n m es vs p nodes c ∙ rw (le-ltb 1 c (omega arith))) }

  pub tails-is : {r : Bool} → 2 ≤ c → r ≡ all_of (is_tail m es) (nums_in c nodes) → Tails m n es nodes c r
  tails-is h q = record { is = λ k vs p. q ∙ sym (tails-at k n m es vs p nodes c ∙ rw (lt-ltb 1 c (omega arith))) }

-- ---- the first c of a list of vertices

-- each is a vertex
pub node-below : {nodes : List ℕ} {c n x k : ℕ} → Below nodes c n → k < length (take c nodes) → x ≡ get_or (take c nodes) k x → x < n
node-below {nodes} {c} {n} {x} {k} B h q =
    let l = length-take-le c nodes B.room in
    let b : k < c = omega arith in
    let e : x ≡ get_or nodes k 0 = q ∙ get_or-take c nodes k x b ∙ get_or_default nodes k x 0 (omega (arith, B.room)) in
    omega (arith, B.at k b)

-- a test of each: what `all` says of it
pub all-nodes : (r : Bool) {nodes : List ℕ} {c n : ℕ} → Below nodes c n → (p : ℕ → Bool)
    → MatchBool r (AllWithin (λ x. p x ≡ true) (take c nodes) 0 (length (take c nodes)))
    ((k : ℕ) × (k < length (take c nodes)) × HoldsAt (λ x. p x ≡ false) (take c nodes) k) → r ≡ all_of p (nums_in c nodes)
all-nodes true {nodes} {c} B p h =
    let l = length-take-le c nodes B.room in
    sym (all_of-yes p c (λ (i : ℕ). get_or nodes i 0) (λ k b. ap p (sym (get_or-take c nodes k 0 b)) ∙ h k 0 (omega arith) (omega arith)))
all-nodes false {nodes} {c} B p (k, b, h) =
    let l = length-take-le c nodes B.room in
    let b' : k < c = omega arith in
    sym (all_of-no p c (λ (i : ℕ). get_or nodes i 0) k b' (ap p (sym (get_or-take c nodes k 0 b')) ∙ h 0))

-- ---- counting edges at v, up to c: d are passed, and e is the next

-- one more than c
pub count_past : {f : ℕ → ℕ} {m n : ℕ} {head next : ℕ → ℕ} {v c d e : ℕ} → Index f m n head next → ListWalked f m v d e → e < m → d ≡ c
    → false ≡ eqb (length (incident_edges f m v)) c
count_past {f} {m} {v = v} {c = c} I W h q = sym (ne_eqb _ c (λ (z : length (incident_edges f m v) ≡ c). omega (arith, z, q, (walked_more I W h).left)))

pub count-end : {f : ℕ → ℕ} {m n : ℕ} {head next : ℕ → ℕ} {v d e : ℕ} (c : ℕ) → Index f m n head next → ListWalked f m v d e → m ≤ e
    → eqb d c ≡ eqb (length (incident_edges f m v)) c
count-end c I W h = ap (λ (x : ℕ). eqb x c) (walked_end I W h)

-- ---- following v's edges out: all before e enter b

module _ {m n : ℕ} {es heads nexts : List ℕ} (I : Indexed m n es heads nexts) (v b : ℕ) where
  abbrev enters : ℕ → Bool
  enters e = eqb b (edge_end 1 es e)

  pub enter-start : v < n → Testing (edge_end 0 es) m v enters (get_or heads (2 * v) 0)
  enter-start h = subst (Testing (edge_end 0 es) m v enters) (sym (pair-first heads v))
      (testing-start (I.index 0 (omega arith)) enters h)

  pub enter-more : (e : ℕ) → Testing (edge_end 0 es) m v enters e → e < m → b ≡ edge_end 1 es e → Testing (edge_end 0 es) m v enters (get_or nexts (2 * e) 0)
  enter-more e T h q = subst (Testing (edge_end 0 es) m v enters) (sym (pair-first nexts e))
      (testing-more (I.index 0 (omega arith)) enters T h (eq-eqb _ _ q))

  pub enter-on : (e : ℕ) → e < m → e < get_or nexts (2 * e) 0
  enter-on e h = omega (arith, ((I.index 0 (omega arith)).nexts e h).low, pair-first nexts e)
