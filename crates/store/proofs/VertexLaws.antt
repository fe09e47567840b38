-- Vertices in slices: the parts of the pool, and a vertex that is written. Assumes nothing.
use mathlib.Core.Path.{◌≡◌, sym, ap, ◌∙◌}
use mathlib.Core.List.{List, [], ◌++◌}
use Prim.Native.Nat.{ℕ, ◌+◌, ◌*◌, ◌-◌, ◌≤◌, ◌<◌}
use native.Mathlib.Omega.{arith}
use lib.ListN.{length, get_or, set, take, drop, length-set, length-take, length-drop}
use lib.Seq.{take-add, drop-drop, drop_at, length-take-le, get_or-set_same, get_or-set_other}
use Rattle.defs.specs.SeqGraph.{vertex_sequence}
use Rattle.defs.specs.Assembly.{last_bytes}
use Rattle.tabs.proofs.Tabs.{get_or-tab}
use Rattle.store.specs.Store.{part, seq_in, graph_in, put_vertex}

-- a part within the pool is as long as it says
pub part-long : (p : List ℕ) (a n : ℕ) → a + n ≤ length p → length (part p a n) ≡ n
part-long p a n h = length-take n (drop a p) ∙ rw (length-drop a p) (omega arith)

-- the last n bytes of a part
pub last-part : (p : List ℕ) (a l n : ℕ) → a + l ≤ length p → n ≤ l → part p (a + (l - n)) n ≡ last_bytes n (part p a l)
last-part p a l n h b = sym (ap (λ (x : ℕ). drop (x - n) (part p a l)) (part-long p a l h) ∙ ap (drop (l - n)) split
    ∙ drop_at (take (l - n) (drop a p)) (take n (drop (l - n) (drop a p))) (l - n) long ∙ ap (take n) (drop-drop (l - n) a p))
  where
    long : length (take (l - n) (drop a p)) ≡ l - n
    long = length-take-le (l - n) (drop a p) (omega (arith, length-drop a p))

    split : take l (drop a p) ≡ take (l - n) (drop a p) ++ take n (drop (l - n) (drop a p))
    split = let z : l ≡ (l - n) + n = omega arith in ap (λ (x : ℕ). take x (drop a p)) z ∙ take-add (l - n) n (drop a p)

pub seq-at : (k n m : ℕ) (es vs p : List ℕ) (v : ℕ) → v < n → vertex_sequence (graph_in k n m es vs p) v ≡ seq_in vs p v
unfolding vertex_sequence
seq-at k n m es vs p v b = get_or-tab n (seq_in vs p) v [] b

-- ---- a store of a vertex

pub length-put-vertex : (vs : List ℕ) (v start len : ℕ) → length (put_vertex vs v start len) ≡ length vs
unfolding put_vertex
length-put-vertex vs v start len = simp length-set

pub put_rest : (vs : List ℕ) (v start len i : ℕ) → (i ≡ 2 * v → ⊥) → (i ≡ 2 * v + 1 → ⊥) → get_or (put_vertex vs v start len) i 0 ≡ get_or vs i 0
unfolding put_vertex
put_rest vs v start len i a b = get_or-set_other (set vs (2 * v) start) (2 * v + 1) i len 0 b ∙ get_or-set_other vs (2 * v) i start 0 a

pub put-before : (vs : List ℕ) (v start len i : ℕ) → i < 2 * v → get_or (put_vertex vs v start len) i 0 ≡ get_or vs i 0
put-before vs v start len i h = put_rest vs v start len i (λ z. omega arith) (λ z. omega arith)

module _ (vs : List ℕ) (v start len : ℕ) (h : 2 * v + 2 ≤ length vs) where
  pub put-start : get_or (put_vertex vs v start len) (2 * v) 0 ≡ start
  unfolding put_vertex
  put-start = get_or-set_other (set vs (2 * v) start) (2 * v + 1) (2 * v) len 0 (λ q. omega arith) ∙ get_or-set_same vs (2 * v) start 0 (omega arith)

  pub put-len : get_or (put_vertex vs v start len) (2 * v + 1) 0 ≡ len
  unfolding put_vertex
  put-len = get_or-set_same (set vs (2 * v) start) (2 * v + 1) len 0 (omega (arith, length-set vs (2 * v) start))
