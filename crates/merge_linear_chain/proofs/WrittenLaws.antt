-- The sequences of a chain, written behind all others, are its first vertex's. Assumes nothing.
use mathlib.Core.Path.{◌≡◌, ap, ◌∙◌}
use mathlib.Core.List.{List, [], ◌∷◌, map}
use Prim.Native.Nat.{ℕ, ◌+◌, ◌*◌, ◌-◌, ◌≤◌, ◌<◌}
use native.Mathlib.Omega.{arith}
use lib.ListN.{length, get_or, set, length-set}
use lib.Seq.{get_or-set_same, get_or-set_other}
use lib.Dec.{eqb}
use borrow.Author.Tests.{eqb-true, eqb-false}
use Rattle.defs.specs.Lists.{concat}
use Rattle.laws.proofs.Walks.{by_test}
use Rattle.tabs.proofs.Tabs.{tab-set}
use Rattle.store.specs.Store.{seq_in, seqs_in, nums_in, Within, put_vertex}
use Rattle.pool.proofs.PoolLaws.{part_same}
use Rattle.merge_linear_chain.specs.Zip.{ChainWritten}

module _ {n at start c end : ℕ} {vs p nodes p' : List ℕ} (below : start < n) (room : 2 * n ≤ length vs) (W : Within at n vs) (high : at ≤ length p)
    (C : ChainWritten vs p at start nodes c end p') where
  abbrev vs' : List ℕ
  vs' = put_vertex vs start at (end - at)

  start-at : 2 * start + 1 < length vs
  start-at = omega (arith, below, room)

  put-start : get_or vs' (2 * start) 0 ≡ at
  unfolding put_vertex
  put-start = get_or-set_other (set vs (2 * start) at) (2 * start + 1) (2 * start) _ 0 (λ z. omega arith)
      ∙ get_or-set_same vs (2 * start) at 0 (omega (arith, start-at))

  put-size : get_or vs' (2 * start + 1) 0 ≡ end - at
  unfolding put_vertex
  put-size = get_or-set_same (set vs (2 * start) at) (2 * start + 1) _ 0 (rw (length-set vs (2 * start) at) start-at)

  put-elsewhere : (v : ℕ) → (v ≡ start → ⊥) → (get_or vs' (2 * v) 0 ≡ get_or vs (2 * v) 0) × (get_or vs' (2 * v + 1) 0 ≡ get_or vs (2 * v + 1) 0)
  unfolding put_vertex
  put-elsewhere v ne = (
    get_or-set_other (set vs (2 * start) at) (2 * start + 1) (2 * v) _ 0 (λ z. omega arith)
        ∙ get_or-set_other vs (2 * start) (2 * v) _ 0 (λ z. ne (omega arith)),
    get_or-set_other (set vs (2 * start) at) (2 * start + 1) (2 * v + 1) _ 0 (λ z. ne (omega arith))
        ∙ get_or-set_other vs (2 * start) (2 * v + 1) _ 0 (λ z. omega arith),
  )

  seq-elsewhere : length p' ≡ length p → (v : ℕ) → v < n → (v ≡ start → ⊥) → seq_in vs' p' v ≡ seq_in vs p v
  seq-elsewhere q v b ne = let z = put-elsewhere v ne in rw (z.0, z.1)
      (part_same p p' (get_or vs (2 * v) 0) (get_or vs (2 * v) 0) (get_or vs (2 * v + 1) 0) (omega (arith, W.at v b, high))
      (omega (arith, W.at v b, high, q)) (λ x d. C.old (get_or vs (2 * v) 0 + x) (omega (arith, W.at v b))))

  seq_start : seq_in vs' p' start ≡ concat (map (seq_in vs p) (start ∷ nums_in c nodes))
  seq_start = rw (put-start, put-size) C.is

  pub verts-written : length p' ≡ length p → seqs_in n vs' p' ≡ set (seqs_in n vs p) start (concat (map (seq_in vs p) (start ∷ nums_in c nodes)))
  verts-written q = tab-set n (seq_in vs p) (seq_in vs' p') start [] below (λ v b ne. seq-elsewhere q v b ne) ∙ ap (set (seqs_in n vs p) start) seq_start

  pub within-written : Within end n vs'
  within-written = record {
    at = λ v b. by_test (eqb v start)
        (λ t. rw (eqb-true v start t) (omega (arith, put-start, put-size, C.end)))
        (λ t. let z = put-elsewhere v (eqb-false v start t) in omega (arith, z.0, z.1, W.at v b, C.end));
  }
