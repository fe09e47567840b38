-- Vertices and edges that are pushed behind the old ones. Assumes nothing.
use mathlib.Core.Path.{◌≡◌, refl, sym, ap, ◌∙◌, subst}
use mathlib.Core.Bool.{Bool, true, false}
use mathlib.Core.List.{List, [], ◌∷◌, ◌++◌, append_assoc, append-nil}
use Prim.Native.Nat.{ℕ, ◌+◌, ◌*◌, ◌≤◌, ◌<◌}
use native.Mathlib.Omega.{arith}
use native.Mathlib.Decide.{ℕ_discrete}
use lib.ListN.{length, get_or, set, length-set, length-append}
use lib.Seq.{get_or-set_same, get_or-set_other}
use Rattle.defs.specs.Lists.{bit}
use Rattle.defs.specs.SeqGraph.{Edge}
use Rattle.defs.specs.Rewrites.{non_empty, only_if}
use Rattle.laws.proofs.Diamonds.{non_empty-yes}
use Rattle.tabs.proofs.Tabs.{tab-snoc, tab-ext}
use Rattle.store.specs.Store.{edge, edges_in, put_edge, put_vertex, part, seq_in, seqs_in}
use Rattle.store.proofs.EdgeLaws.{length-put, put-at, put-push}
use Rattle.store.proofs.VertexLaws.{part-long, length-put-vertex, put-before}
use Rattle.split_and_update.specs.Pushed.{EdgesPushed, edge_if, VertsPushed, PartPushed}

-- ---- edges

pub pushed_none : (k : ℕ) (es : List ℕ) → EdgesPushed k es [] k es
pushed_none k es = record { count = omega arith; len = refl; same = λ i h. refl; is = sym (append-nil (edges_in k es)) }

pub pushed-one : {k : ℕ} {es es' : List ℕ} (a b s f : ℕ) → 4 * k + 4 ≤ length es → es' ≡ put_edge es k a b s f → EdgesPushed k es (edge a b s f ∷ []) (k + 1) es'
pushed-one {k} {es} {es'} a b s f h q = record {
  count = refl;
  len = ap length q ∙ length-put es k a b s f;
  same = λ i c. ap (λ (l : List ℕ). get_or l i 0) q ∙ put-at es k a b s f i (λ z. omega arith) (λ z. omega arith) (λ z. omega arith) (λ z. omega arith);
  is = ap (edges_in (k + 1)) q ∙ put-push k es a b s f h;
}

pub pushed_then : {k k' k'' : ℕ} {es es' es'' : List ℕ} {x y : List Edge} → EdgesPushed k es x k' es' → EdgesPushed k' es' y k'' es''
    → EdgesPushed k es (x ++ y) k'' es''
pushed_then {k} {es = es} {x = x} {y = y} A B = record {
  count = omega (arith, A.count, B.count, length-append x y);
  len = B.len ∙ A.len;
  same = λ i h. B.same i (omega (arith, A.count)) ∙ A.same i h;
  is = B.is ∙ ap (λ (l : List Edge). l ++ y) A.is ∙ append_assoc (edges_in k es) x y;
}

pub pushed-not : {k : ℕ} {es : List ℕ} (t : Bool) (a b s f : ℕ) → t ≡ false → EdgesPushed k es (edge_if t a b s f) k es
unfolding only_if
pushed-not {k} {es} t a b s f h = rw h (pushed_none k es)

pub pushed-yes : {k : ℕ} {es es' : List ℕ} (t : Bool) (a b s f : ℕ) → t ≡ true → 4 * (k + bit t) ≤ length es → es'
    ≡ put_edge es k a b s f → EdgesPushed k es (edge_if t a b s f) (k + 1) es'
unfolding only_if bit
pushed-yes {k} {es} {es'} t a b s f h r q =
    let r' : 4 * (k + 1) ≤ length es = rw h at r in
    rw h (pushed-one a b s f (omega arith) q)

pub room-yes : (k : ℕ) (es : List ℕ) (t : Bool) → t ≡ true → 4 * (k + bit t) ≤ length es → 4 * k + 4 ≤ length es
unfolding bit
room-yes k es t h r = let r' : 4 * (k + 1) ≤ length es = rw h at r in omega arith

-- ---- vertices

put-start : (vs : List ℕ) (k s n : ℕ) → 2 * k + 2 ≤ length vs → get_or (put_vertex vs k s n) (2 * k) 0 ≡ s
unfolding put_vertex
put-start vs k s n h = get_or-set_other (set vs (2 * k) s) (2 * k + 1) (2 * k) n 0 (λ z. omega arith) ∙ get_or-set_same vs (2 * k) s 0 (omega arith)

put-len : (vs : List ℕ) (k s n : ℕ) → 2 * k + 2 ≤ length vs → get_or (put_vertex vs k s n) (2 * k + 1) 0 ≡ n
unfolding put_vertex
put-len vs k s n h = get_or-set_same (set vs (2 * k) s) (2 * k + 1) n 0 (rw (length-set vs (2 * k) s) (omega arith))

pub verts-none : (k : ℕ) (vs p : List ℕ) → VertsPushed k vs p [] k vs
verts-none k vs p = record { count = omega arith; len = refl; same = λ i h. refl; is = sym (append-nil (seqs_in k vs p)) }

verts-one : {k : ℕ} {vs vs' : List ℕ} (s n : ℕ) (p : List ℕ) → 2 * k + 2 ≤ length vs → vs' ≡ put_vertex vs k s n
    → VertsPushed k vs p (part p s n ∷ []) (k + 1) vs'
verts-one {k} {vs} {vs'} s n p h q = record {
  count = refl;
  len = ap length q ∙ length-put-vertex vs k s n;
  same = λ i b. ap (λ (l : List ℕ). get_or l i 0) q ∙ put-before vs k s n i b;
  is = ap (λ (l : List ℕ). seqs_in (k + 1) l p) q ∙ tab-snoc k (seq_in (put_vertex vs k s n) p)
      ∙ (λ j. tab-ext k (seq_in (put_vertex vs k s n) p) (seq_in vs p) (λ v b i.
      part p (put-before vs k s n (2 * v) (omega arith) i) (put-before vs k s n (2 * v + 1) (omega arith) i)) j
      ++ (part p (put-start vs k s n h j) (put-len vs k s n h j) ∷ []));
}

pub verts-then : {k k' k'' : ℕ} {vs vs' vs'' p : List ℕ} {x y : List (List ℕ)} → VertsPushed k vs p x k' vs' → VertsPushed k' vs' p y k'' vs''
    → VertsPushed k vs p (x ++ y) k'' vs''
verts-then {k} {vs = vs} {p = p} {x = x} {y = y} A B = record {
  count = omega (arith, A.count, B.count, length-append x y);
  len = B.len ∙ A.len;
  same = λ i h. B.same i (omega (arith, A.count)) ∙ A.same i h;
  is = B.is ∙ ap (λ (l : List (List ℕ)). l ++ y) A.is ∙ append_assoc (seqs_in k vs p) x y;
}

pub non_empty-no : (l : List ℕ) → length l ≡ 0 → non_empty l ≡ false
unfolding non_empty
non_empty-no [] h = refl
non_empty-no (x ∷ l) h = absurd (omega arith)

pub part_none : {k : ℕ} {vs : List ℕ} {start : ℕ} {q : List ℕ} → length q ≡ 0 → PartPushed k vs start q k vs
unfolding only_if
part_none {k} {vs} {start} {q} z = record { is = λ p b. rw (non_empty-no q z) (verts-none k vs p); within = λ used b w. w }

pub part-put : {k : ℕ} {vs vs' : List ℕ} {start : ℕ} {q : List ℕ} → 0 < length q → 2 * k + 2 ≤ length vs
    → vs' ≡ put_vertex vs k start (length q) → PartPushed k vs start q (k + 1) vs'
unfolding only_if
part-put {k} {vs} {vs'} {start} {q} z h e = record {
  is = λ p b. rw (non_empty-yes q z)
      (subst (λ (l : List ℕ). VertsPushed k vs p (l ∷ []) (k + 1) vs') b (verts-one start (length q) p h e));
  within = λ used b w. record {
    at = λ v c. elim (ℕ_discrete v k) [
      | yes d ↦ rw (d, e, put-start vs k start (length q) h, put-len vs k start (length q) h) b
      | no ne ↦ rw (e, put-before vs k start (length q) (2 * v) (omega arith), put-before vs k start (length q) (2 * v + 1) (omega arith))
          (w.at v (omega arith))
    ];
  };
}

-- a part of the pool stands where it was taken
pub part-own : (p : List ℕ) (at n : ℕ) → at + n ≤ length p → part p at (length (part p at n)) ≡ part p at n
part-own p at n b = ap (part p at) (part-long p at n b)
