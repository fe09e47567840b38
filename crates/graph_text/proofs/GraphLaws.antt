-- The lines of a held graph make its text. Assumes nothing.
use mathlib.Core.Path.{◌≡◌, refl, sym, ap, ◌∙◌, subst}
use mathlib.Core.Bool.{Bool, true, false, cond}
use mathlib.Core.List.{List, [], ◌++◌, map}
use Prim.Native.Nat.{ℕ, ◌+◌, ◌*◌, ◌-◌, ◌≤◌, ◌<◌}
use native.Mathlib.Omega.{arith}
use lib.IntN.{ℤ}
use lib.ListN.{length, get_or, take, drop}
use borrow.Author.Tests.{eq-eqb, ne_eqb}
use Rattle.defs.specs.Lists.{concat, tab}
use Rattle.defs.specs.SeqGraph.{Edge, node_count, vertex_sequence}
use Rattle.defs.specs.Simplify.{sequence_bytes, End, quiet, repeated, full, end_number}
use Rattle.tabs.proofs.Tabs.{length-tab, get_or-tab, tab-ext}
use Rattle.tabs.proofs.SumTabs.{map-tab}
use Rattle.defs.specs.Forms.{sgr1}
use Rattle.store.specs.Store.{edge_in, seq_in, graph_in}
use Rattle.store.proofs.VertexLaws.{part-long}
use Rattle.pool.specs.Pool.{bytes_in}
use Rattle.pool.proofs.PoolLaws.{bytes_below}
use Rattle.write_record.proofs.WriteLaws.{bytes-are}
use Rattle.memory.specs.declared.Held.{Held}
use Rattle.text.specs.Printed.{ascii, field, signed, surplus, printed_sequence, first_line, end_name, second_line, vertex_line, edge_line}
use Rattle.text.specs.Printed.{printed_graph, printed_refusal}
use Rattle.text.specs.Put.{TextPut}
use Rattle.text.proofs.TextLaws.{put_then, put_as, put-most, Lines, lines_long, lines_at}
use Rattle.graph_text.specs.GraphText.{end_with_number, size_in, VertexFits, vertices_most, VerticesFit, Printable, LinesPut}

-- ---- lines

module _ {text t₁ t₂ : List ℕ} {r₁ r₂ : ℕ} where
  pub refusal-line : (number : ℕ) → TextPut 18 (field "refused " number) text 0 r₁ t₁ → TextPut 1 (ascii "\n") t₁ r₁ r₂ t₂ → TextPut 19 (printed_refusal number) text 0 r₂ t₂
  unfolding printed_refusal
  refusal-line number p q = put_then p q

  module _ {t₃ t₄ : List ℕ} {at r₃ r₄ : ℕ} where
    pub edge-line : {t₅ : List ℕ} {r₅ : ℕ} (e : Edge) {a b s : ℕ} {f c : Bool} → a ≡ e.from → b ≡ e.to → s ≡ e.support → f ≡ e.is_ref → c ≡ e.capped
        → TextPut 12 (field "e " a) text at r₁ t₁ → TextPut 11 (field " " b) t₁ r₁ r₂ t₂ → TextPut 11 (field " " s) t₂ r₂ r₃ t₃
        → TextPut 2 (cond f (ascii " r") (ascii " -")) t₃ r₃ r₄ t₄ → TextPut 2 (cond c (ascii "c\n") (ascii "\n")) t₄ r₄ r₅ t₅
        → TextPut 38 (edge_line e) text at r₅ t₅
    unfolding edge_line
    edge-line e qa qb qs qf qc p q r s t = put_then (put_then (put_then (put_then (put_as (ap (field "e ") qa) p) (put_as (ap (field " ") qb) q))
        (put_as (ap (field " ") qs) r)) (put_as (ap (λ x. cond x (ascii " r") (ascii " -")) qf) s))
        (put_as (ap (λ x. cond x (ascii "c\n") (ascii "\n")) qc) t)

    -- the part that is printed is the vertex's sequence
    pub vertex-line : (vs pool : List ℕ) (v : ℕ) {start len : ℕ} → get_or vs (2 * v) 0 + size_in vs v ≤ length pool → start ≡ get_or vs (2 * v) 0 → len ≡ size_in vs v
        → TextPut 12 (field "v " v) text at r₁ t₁ → TextPut 1 (ascii " ") t₁ r₁ r₂ t₂
        → TextPut (4 * length (take (start + len - start) (drop start pool)) + 1) (printed_sequence (take (start + len - start) (drop start pool))) t₂ r₂ r₃ t₃
        → TextPut 1 (ascii "\n") t₃ r₃ r₄ t₄ → TextPut (15 + 4 * size_in vs v) (vertex_line v (seq_in vs pool v)) text at r₄ t₄
    unfolding vertex_line
    vertex-line vs pool v {start} {len} w qs ql p q r s =
        put-most (omega (arith, part-long pool (get_or vs (2 * v) 0) (size_in vs v) w)) (put_then (put_then (put_then p q) here) s)
      where
        cut : take (start + len - start) (drop start pool) ≡ seq_in vs pool v
        cut = let e : start + len - start ≡ len = omega arith in ap (λ (n : ℕ). take n (drop start pool)) e ∙ (λ i. take (ql i) (drop (qs i) pool))

        here : TextPut (4 * length (seq_in vs pool v) + 1) (printed_sequence (seq_in vs pool v)) t₂ r₂ r₃ t₃
        here = subst (λ (l : List ℕ). TextPut (4 * length l + 1) (printed_sequence l) t₂ r₂ r₃ t₃) cut r

    module _ {t₅ : List ℕ} {r₅ : ℕ} where
      pub second-line : (rewrites rounds : ℕ) (e : End) → TextPut 19 (field "rewrites " rewrites) text at r₁ t₁
          → TextPut 18 (field " rounds " rounds) t₁ r₁ r₂ t₂ → TextPut 5 (ascii " end ") t₂ r₂ r₃ t₃
          → TextPut 8 (ascii (end_name e)) t₃ r₃ r₄ t₄ → TextPut 1 (ascii "\n") t₄ r₄ r₅ t₅ → TextPut 51 (second_line rewrites rounds e) text at r₅ t₅
      unfolding second_line
      second-line rewrites rounds e p q r s t = put_then (put_then (put_then (put_then p q) r) s) t

      pub first-line : {t₆ t₇ : List ℕ} {r₆ r₇ : ℕ} (k n m b : ℕ) {x : ℤ} → TextPut 12 (field "k " k) text at r₁ t₁
          → TextPut 20 (field " vertices " n) t₁ r₁ r₂ t₂ → TextPut 17 (field " edges " m) t₂ r₂ r₃ t₃
          → TextPut 17 (field " bytes " b) t₃ r₃ r₄ t₄ → TextPut 9 (ascii " surplus ") t₄ r₄ r₅ t₅ → x ≡ surplus m n → TextPut 11 (signed x) t₅ r₅ r₆ t₆
          → TextPut 1 (ascii "\n") t₆ r₆ r₇ t₇
          → TextPut 87 (first_line k n m b) text at r₇ t₇
      unfolding first_line
      first-line k n m b p q r s t e u v = put_then (put_then (put_then (put_then (put_then (put_then p q) r) s) t) (put_as (ap signed e) u)) v

-- ---- the lines of the vertices

pub vertices-fit : {n : ℕ} {vs pool text text' : List ℕ} {at to v : ℕ} → VerticesFit n vs pool text at
    → Lines n (λ (k : ℕ). vertices_most k vs) (λ (k : ℕ). vertex_line k (seq_in vs pool k)) text at text' to v → v < n → VertexFits vs pool v text' to
vertices-fit {n} {vs} {v = v} F L h = record {
  vs-room = omega (arith, F.vs-room);
  within = F.within.at v h;
  room = omega (arith, F.room, lines_at L, lines_long L, bytes_below n v vs h);
}

-- ---- one of two, and ends

module _ {text text' : List ℕ} {at r : ℕ} where
  pub put_one : (most : ℕ) (b : Bool) (x y : List ℕ) → b ≡ true → TextPut most x text at r text' → TextPut most (cond b x y) text at r text'
  put_one most b x y t P = rw t P

  pub put_other : (most : ℕ) (b : Bool) (x y : List ℕ) → b ≡ false → TextPut most y text at r text' → TextPut most (cond b x y) text at r text'
  put_other most b x y t P = rw t P

  pub end_quiet : (n : ℕ) → n ≡ 1 → TextPut 5 (ascii "quiet") text at r text' → TextPut 8 (ascii (end_name (end_with_number n))) text at r text'
  unfolding end_with_number end_name
  end_quiet n q P = rw (eq-eqb n 1 q) (put-most (omega arith) P)

  pub end-repeated : (n : ℕ) → (n ≡ 1 → ⊥) → n ≡ 2 → TextPut 8 (ascii "repeated") text at r text' → TextPut 8 (ascii (end_name (end_with_number n))) text at r text'
  unfolding end_with_number end_name
  end-repeated n o q P = rw (ne_eqb n 1 o, eq-eqb n 2 q) P

  pub end-full : (n : ℕ) → (n ≡ 1 → ⊥) → (n ≡ 2 → ⊥) → TextPut 4 (ascii "full") text at r text' → TextPut 8 (ascii (end_name (end_with_number n))) text at r text'
  unfolding end_with_number end_name
  end-full n o q P = rw (ne_eqb n 1 o, ne_eqb n 2 q) (put-most (omega arith) P)

pub end_back : (e : End) → end_with_number (end_number e) ≡ e
unfolding end_with_number end_number
end_back quiet = refl
end_back repeated = refl
end_back full = refl

-- ---- the whole

module _ {h : Held} {es vs pool text : List ℕ} (P : Printable h es vs pool text) where
  vertices-are : concat (tab h.n (λ (v : ℕ). vertex_line v (seq_in vs pool v)))
      ≡ concat (tab (node_count (graph_in h.k.0 h.n h.m es vs pool)) (λ (v : ℕ).
      vertex_line v (vertex_sequence (graph_in h.k.0 h.n h.m es vs pool) v)))
  unfolding node_count vertex_sequence
  vertices-are =
      ap concat (tab-ext h.n (λ (v : ℕ). vertex_line v (seq_in vs pool v)) (λ (v : ℕ).
      vertex_line v (get_or (tab h.n (seq_in vs pool)) v [])) (λ v b. ap (vertex_line v) (sym (get_or-tab h.n (seq_in vs pool) v [] b))))
      ∙ ap (λ (n : ℕ). concat (tab n (λ (v : ℕ). vertex_line v (get_or (tab h.n (seq_in vs pool)) v [])))) (sym (length-tab h.n (seq_in vs pool)))

  edges_are : concat (tab h.m (λ (i : ℕ). edge_line (edge_in es i))) ≡ concat (map edge_line (tab h.m (edge_in es)))
  edges_are = ap concat (sym (map-tab edge_line h.m (edge_in es)))

  first-is : {b : ℕ} → b ≡ bytes_in h.n vs → first_line h.k.0 h.n h.m b
      ≡ first_line h.k.0 (length (tab h.n (seq_in vs pool))) (length (tab h.m (edge_in es)))
      (sequence_bytes (tab h.n (seq_in vs pool)))
  first-is q = λ i. first_line h.k.0 (sym (length-tab h.n (seq_in vs pool)) i) (sym (length-tab h.m (edge_in es)) i)
      ((q ∙ sym (bytes-are sgr1 0 h.k.0 h.n h.m es vs pool P.within)) i)

  pub lines-put : {at r₃ r₄ : ℕ} {t₃ t₄ : List ℕ} → TextPut (vertices_most h.n vs) (concat (tab h.n (λ (v : ℕ). vertex_line v (seq_in vs pool v)))) text at r₃ t₃
      → TextPut (38 * h.m) (concat (tab h.m (λ (i : ℕ). edge_line (edge_in es i)))) t₃ r₃ r₄ t₄
      → LinesPut h es vs pool text at r₄ t₄
  unfolding printed_graph node_count
  lines-put p₃ p₄ = record {
    is = λ rewrites rounds end q p. put-most (omega arith)
        (put_then (put_then (put_as (λ i. first-is q i ++ second_line rewrites rounds (end_with_number end)) p) (put_as vertices-are p₃)) (put_as edges_are p₄));
  }
