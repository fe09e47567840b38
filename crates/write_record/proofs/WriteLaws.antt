-- Parts written one behind the other, and the record that they make. Assumes nothing.
use mathlib.Core.Path.{◌≡◌, refl, sym, ap, ◌∙◌}
use mathlib.Core.List.{List, [], ◌∷◌, ◌++◌, map, append_assoc}
use Prim.Native.Nat.{ℕ, zero, suc, ◌+◌, ◌-◌, ◌*◌, ◌≤◌, ◌<◌}
use native.Mathlib.Nat.{add-zero, zero-add, mul-zero, mul-suc}
use native.Mathlib.Numerals.{add-one}
use native.Mathlib.Omega.{arith}
use lib.ListN.{length, get_or, set, take, drop, length-append, length-drop}
use lib.Seq.{sets, sets-eq, length-sets, take-suc, get_or-drop}
use Rattle.defs.specs.Lists.{concat, tab, tab_from, sum}
use Rattle.defs.specs.SeqGraph.{Edge, node_count}
use Rattle.defs.specs.Simplify.{sequence_bytes}
use Rattle.defs.specs.Forms.{Form, mark, word_size, lengths_at, edge_size}
use Rattle.defs.specs.Record.{flag_of, le16, le32, word_bytes, edges_at, bytes_at, whole_length, encode_edge, encode_header}
use Rattle.defs.specs.Record.{sequence_graph, record_kind_number, encode}
use Rattle.tabs.proofs.Tabs.{tab-ext, length-tab}
use Rattle.tabs.proofs.SumTabs.{sum-none, sum_more, map-tab, fields-length}
use Rattle.le.proofs.LeLaws.{length-le16, length-le32}
use Rattle.form.specs.declared.Form as Code
use Rattle.form.specs.declared.Form.TheVariants.{Sgr1, Sgr2}
use Rattle.form.specs.Coded.{form_is}
use Rattle.form.proofs.FormLaws.{sizes, between, length-word, length-mark, is-1, is-2}
use Rattle.store.specs.Store.{edge, edge_in, part, seq_in, graph_in, Within}
use Rattle.store.proofs.VertexLaws.{part-long}
use Rattle.pool.specs.Pool.{bytes_in}
use Rattle.memory.specs.Memory.{graph_of}
use Rattle.memory.specs.declared.Held.{Held}
use Rattle.write_record.specs.Written.{length_bytes, RecordWritable, RecordWritten}

-- ---- one part behind the other

sets-append : (xs ys l : List ℕ) (i : ℕ) → sets (sets l i xs) (i + length xs) ys ≡ sets l i (xs ++ ys)
sets-append [] ys l i = ap (λ (k : ℕ). sets l k ys) (add-zero i)
sets-append (x ∷ xs) ys l i =
    let e : i + suc (length xs) ≡ suc i + length xs = omega arith in
    ap (λ (k : ℕ). sets (sets (set l i x) (suc i) xs) k ys) e ∙ sets-append xs ys (set l i x) (suc i)

pub put-behind : (l x y : List ℕ) (i j : ℕ) {l' l'' : List ℕ} → l' ≡ sets l i x → l'' ≡ sets l' j y → j ≡ i + length x → l'' ≡ sets l i (x ++ y)
put-behind l x y i j p q e = q ∙ ap (λ (k : List ℕ). sets k j y) p ∙ ap (λ (k : ℕ). sets (sets l i x) k y) e ∙ sets-append x y l i

pub put_four : (l w x y z : List ℕ) (i j₁ j₂ j₃ : ℕ) {l₁ l₂ l₃ l₄ : List ℕ} → l₁ ≡ sets l i w → l₂ ≡ sets l₁ j₁ x
    → l₃ ≡ sets l₂ j₂ y → l₄ ≡ sets l₃ j₃ z
    → j₁ ≡ i + length w → j₂ ≡ i + length (w ++ x) → j₃ ≡ i + length (w ++ x ++ y) → l₄ ≡ sets l i (w ++ x ++ y ++ z)
put_four l w x y z i j₁ j₂ j₃ p₁ p₂ p₃ p₄ e₁ e₂ e₃ =
    put-behind l (w ++ x ++ y) z i j₃ (put-behind l (w ++ x) y i j₂ (put-behind l w x i j₁ p₁ p₂ e₁) p₃ e₂) p₄ e₃

-- four lists behind a first one, in brackets or not
flat : (a w x y z : List ℕ) → a ++ (w ++ x ++ y ++ z) ≡ a ++ w ++ x ++ y ++ z
flat a w x y z =
    sym (append_assoc a (w ++ x ++ y) z)
    ∙ ap (λ (l : List ℕ). l ++ z) (sym (append_assoc a (w ++ x) y) ∙ ap (λ (l : List ℕ). l ++ y) (sym (append_assoc a w x)))

four-length : (w x y z : ℕ) → length (le32 w ++ le32 x ++ le32 y ++ le32 z) ≡ 16
unfolding le32
four-length w x y z = refl

module _ (form : Code.Form) (l : List ℕ) {l' : List ℕ} where
  pub mark-put-1 : form ≡ Sgr1 → l' ≡ sets l 0 (83 ∷ 71 ∷ 82 ∷ 49 ∷ []) → l' ≡ sets l 0 (mark (form_is form))
  unfolding mark
  mark-put-1 e p = p ∙ ap (λ (f : Form). sets l 0 (mark f)) (sym (is-1 form e))

  pub mark-put-2 : form ≡ Sgr2 → l' ≡ sets l 0 (83 ∷ 71 ∷ 82 ∷ 50 ∷ []) → l' ≡ sets l 0 (mark (form_is form))
  unfolding mark
  mark-put-2 e p = p ∙ ap (λ (f : Form). sets l 0 (mark f)) (sym (is-2 form e))

-- ---- the header

pub kind-put : (f : Form) (status : ℕ) (l : List ℕ) {l' : List ℕ} → l' ≡ sets l 0 (mark f)
    → set (set l' 4 1) 5 status ≡ sets l 0 (mark f ++ (1 ∷ status ∷ []))
kind-put f status l p = put-behind l (mark f) (1 ∷ status ∷ []) 0 4 p refl (omega (arith, length-mark f))

module _ (f : Form) where
  counts-length : (k n m b : ℕ) → length (le16 k ++ word_bytes f n ++ word_bytes f m ++ le32 b) ≡ 6 + 2 * word_size f
  counts-length k n m b =
      length-append (le16 k ++ word_bytes f n ++ word_bytes f m) (le32 b)
      ∙ omega (arith, words-length k n m, length-le32 b)
    where
      words-length : (k n m : ℕ) → length (le16 k ++ word_bytes f n ++ word_bytes f m) ≡ 2 + 2 * word_size f
      words-length k n m =
          length-append (le16 k ++ word_bytes f n) (word_bytes f m)
          ∙ omega (arith, length-append (le16 k) (word_bytes f n), length-le16 k, length-word f n, length-word f m)

  -- with w bytes to a word
  pub counts-put : (k n m b : ℕ) (l : List ℕ) {w : ℕ} → w ≡ word_size f → {l₁ l₂ l₃ l₄ : List ℕ} → l₁ ≡ sets l 6 (le16 k)
      → l₂ ≡ sets l₁ 8 (word_bytes f n) → l₃ ≡ sets l₂ (8 + w) (word_bytes f m) → l₄ ≡ sets l₃ (8 + 2 * w) (le32 b)
      → l₄ ≡ sets l 6 (le16 k ++ word_bytes f n ++ word_bytes f m ++ le32 b)
  counts-put k n m b l {w} e p₁ p₂ p₃ p₄ =
      let x = length-append (le16 k) (word_bytes f n) in
      let y = length-append (le16 k ++ word_bytes f n) (word_bytes f m) in
      put_four l (le16 k) (word_bytes f n) (word_bytes f m) (le32 b) 6 8 (8 + w) (8 + 2 * w) p₁ p₂ p₃ p₄
      (omega (arith, length-le16 k))
      (omega (arith, e, x, length-le16 k, length-word f n))
      (omega (arith, e, x, y, length-le16 k, length-word f n, length-word f m))

  -- with a header of h bytes
  pub offsets-put : (x y z : ℕ) (l : List ℕ) {h : ℕ} → h ≡ lengths_at f → {l₁ l₂ l₃ l₄ : List ℕ} → l₁ ≡ sets l (h - 16) (le32 h)
      → l₂ ≡ sets l₁ (h - 12) (le32 x) → l₃ ≡ sets l₂ (h - 8) (le32 y) → l₄ ≡ sets l₃ (h - 4) (le32 z)
      → l₄ ≡ sets l (lengths_at f - 16) (le32 (lengths_at f) ++ le32 x ++ le32 y ++ le32 z)
  offsets-put x y z l {h} e p₁ p₂ p₃ p₄ =
      let long = (sizes f).header-least in
      let a = length-append (le32 h) (le32 x) in
      let b = length-append (le32 h ++ le32 x) (le32 y) in
      put_four l (le32 h) (le32 x) (le32 y) (le32 z) (h - 16) (h - 12) (h - 8) (h - 4) p₁ p₂ p₃ p₄
      (omega (arith, e, long, length-le32 h))
      (omega (arith, e, long, a, length-le32 h, length-le32 x))
      (omega (arith, e, long, a, b, length-le32 h, length-le32 x, length-le32 y))
      ∙ (λ j. sets l (e j - 16) (le32 (e j) ++ le32 x ++ le32 y ++ le32 z))

  front_length : (status k n m b : ℕ) → length (mark f ++ (1 ∷ status ∷ []) ++ (le16 k ++ word_bytes f n ++ word_bytes f m ++ le32 b)) ≡ lengths_at f - 16
  front_length status k n m b =
      length-append (mark f ++ (1 ∷ status ∷ [])) (le16 k ++ word_bytes f n ++ word_bytes f m ++ le32 b)
      ∙ omega (arith, length-append (mark f) (1 ∷ status ∷ []), length-mark f, counts-length k n m b, (sizes f).header-holds)

  -- the header's bytes, as they are put
  headed : ℕ → ℕ → ℕ → ℕ → ℕ → ℕ → ℕ → ℕ → List ℕ
  headed status k n m b x y z =
      mark f ++ (1 ∷ status ∷ []) ++ (le16 k ++ word_bytes f n ++ word_bytes f m ++ le32 b) ++ (le32 (lengths_at f) ++ le32 x ++ le32 y ++ le32 z)

  header_is : (status k n m b : ℕ) → headed status k n m b (edges_at f n) (bytes_at f n m) (whole_length f n m b) ≡ encode_header f 1 status k n m b
  unfolding headed encode_header
  header_is status k n m b =
      let front = mark f ++ (1 ∷ status ∷ []) in
      let o = le32 (lengths_at f) in
      let x = le32 (edges_at f n) in
      let y = le32 (bytes_at f n m) in
      let z = le32 (whole_length f n m b) in
      ap (λ (l : List ℕ). l ++ (o ++ x ++ y ++ z)) (flat front (le16 k) (word_bytes f n) (word_bytes f m) (le32 b))
      ∙ flat (front ++ le16 k ++ word_bytes f n ++ word_bytes f m ++ le32 b) o x y z

  pub header-put : (status k n m b : ℕ) (l : List ℕ) {x y z : ℕ} → x ≡ edges_at f n → y ≡ bytes_at f n m → z ≡ whole_length f n m b
      → {l₁ l₂ l₃ : List ℕ} → l₁ ≡ sets l 0 (mark f ++ (1 ∷ status ∷ [])) → l₂ ≡ sets l₁ 6 (le16 k ++ word_bytes f n ++ word_bytes f m ++ le32 b)
      → l₃ ≡ sets l₂ (lengths_at f - 16) (le32 (lengths_at f) ++ le32 x ++ le32 y ++ le32 z)
      → l₃ ≡ sets l 0 (encode_header f 1 status k n m b)
  unfolding headed
  header-put status k n m b l {x} {y} {z} qx qy qz p₁ p₂ p₃ =
      let counts = le16 k ++ word_bytes f n ++ word_bytes f m ++ le32 b in
      put-behind l (mark f ++ (1 ∷ status ∷ []) ++ counts) (le32 (lengths_at f) ++ le32 x ++ le32 y ++ le32 z) 0 (lengths_at f - 16)
      (put-behind l (mark f ++ (1 ∷ status ∷ [])) counts 0 6 p₁ p₂ (omega (arith, length-append (mark f) (1 ∷ status ∷ []), length-mark f))) p₃
      (omega (arith, front_length status k n m b))
      ∙ (λ j. sets l 0 (headed status k n m b (qx j) (qy j) (qz j)))
      ∙ ap (sets l 0) (header_is status k n m b)

  header-length : (status k n m b : ℕ) → length (encode_header f 1 status k n m b) ≡ lengths_at f
  unfolding headed
  header-length status k n m b =
      let front = mark f ++ (1 ∷ status ∷ []) ++ (le16 k ++ word_bytes f n ++ word_bytes f m ++ le32 b) in
      ap length (sym (header_is status k n m b))
      ∙ length-append front (le32 (lengths_at f) ++ le32 (edges_at f n) ++ le32 (bytes_at f n m) ++ le32 (whole_length f n m b))
      ∙ omega (arith, front_length status k n m b, four-length (lengths_at f) (edges_at f n) (bytes_at f n m) (whole_length f n m b), (sizes f).header-least)

  -- ---- an edge

  ends-of-edge : (e : Edge) → length (word_bytes f e.from ++ word_bytes f e.to) ≡ 2 * word_size f
  ends-of-edge e = length-append (word_bytes f e.from) (word_bytes f e.to) ∙ omega (arith, length-word f e.from, length-word f e.to)

  front-of-edge : (e : Edge) → length (word_bytes f e.from ++ word_bytes f e.to ++ le32 e.support) ≡ 2 * word_size f + 4
  front-of-edge e =
      length-append (word_bytes f e.from ++ word_bytes f e.to) (le32 e.support)
      ∙ omega (arith, ends-of-edge e, length-le32 e.support)

  edge-length : (e : Edge) → length (encode_edge f e) ≡ edge_size f
  unfolding encode_edge
  edge-length e =
      length-append (word_bytes f e.from ++ word_bytes f e.to ++ le32 e.support) (flag_of e ∷ [])
      ∙ omega (arith, front-of-edge e, (sizes f).edge-holds)

  pub edge-put : (at : ℕ) (l : List ℕ) {w : ℕ} → w ≡ word_size f → {a b s g : ℕ} (e : Edge) {l₁ l₂ l₃ : List ℕ}
      → a ≡ e.from → b ≡ e.to → s ≡ e.support → g ≡ flag_of e
      → l₁ ≡ sets l at (word_bytes f a) → l₂ ≡ sets l₁ (at + w) (word_bytes f b) → l₃ ≡ sets l₂ (at + 2 * w) (le32 s)
      → set l₃ (at + 2 * w + 4) g ≡ sets l at (encode_edge f e)
  unfolding encode_edge
  edge-put at l {w} q {g = g} e {l₁} {l₂} {l₃} qa qb qs qf p₁ p₂ p₃ =
      put_four l (word_bytes f e.from) (word_bytes f e.to) (le32 e.support) (flag_of e ∷ []) at (at + w) (at + 2 * w) (at + 2 * w + 4)
      (p₁ ∙ ap (λ (x : ℕ). sets l at (word_bytes f x)) qa) (p₂ ∙ ap (λ (x : ℕ). sets l₁ (at + w) (word_bytes f x)) qb) (p₃
      ∙ ap (λ (x : ℕ). sets l₂ (at + 2 * w) (le32 x)) qs) (ap (λ (x : ℕ). set l₃ (at + 2 * w + 4) x) qf)
      (omega (arith, q, length-word f e.from)) (omega (arith, q, ends-of-edge e)) (omega (arith, q, front-of-edge e))

-- ---- a loop that writes: w i is written in i turns

pub record Growing (n : ℕ) (w : ℕ → List ℕ) (l : List ℕ) (at : ℕ) (l' : List ℕ) (i : ℕ) : Type 0 where
  pub high : i ≤ n
  pub is : l' ≡ sets l at (w i)

module _ {n : ℕ} {w : ℕ → List ℕ} {l : List ℕ} {at : ℕ} where
  pub growing-start : w 0 ≡ [] → Growing n w l at l 0
  growing-start z = record { high = omega arith; is = ap (λ (x : List ℕ). sets l at x) (sym z) }

  pub growing-len : {l' : List ℕ} {i : ℕ} → Growing n w l at l' i → length l' ≡ length l
  growing-len {i = i} G = ap length G.is ∙ length-sets l at (w i)

  pub growing-more : {l' l'' : List ℕ} {i : ℕ} (x : List ℕ) (j : ℕ) → Growing n w l at l' i → i < n → w (i + 1) ≡ w i ++ x → j ≡ at
      + length (w i) → l'' ≡ sets l' j x → Growing n w l at l'' (i + 1)
  growing-more {i = i} x j G h e q p = record { high = omega arith; is = put-behind l (w i) x at j G.is p q ∙ ap (λ (y : List ℕ). sets l at y) (sym e) }

  pub growing-end : {l' : List ℕ} {i : ℕ} → Growing n w l at l' i → n ≤ i → l' ≡ sets l at (w n)
  growing-end {i = i} G h = let q : i ≡ n = omega (arith, G.high) in G.is ∙ ap (λ (x : ℕ). sets l at (w x)) q

-- ---- fields, one after the other

sum-equal : (w n : ℕ) → sum (tab n (λ (i : ℕ). w)) ≡ w * n
sum-equal w zero = sum-none (λ (i : ℕ). w) ∙ sym (mul-zero w)
sum-equal w (suc n) =
    ap (λ (x : ℕ). sum (tab x (λ (i : ℕ). w))) (sym (add-one n)) ∙ sum_more n (λ (i : ℕ). w)
    ∙ omega (arith, sum-equal w n, mul-suc w n)

module _ (f : Form) where
  pub lengths-length : (vs : List ℕ) (n : ℕ) → length (concat (tab n (length_bytes f vs))) ≡ word_size f * n
  lengths-length vs n =
      fields-length (length_bytes f vs) (λ (i : ℕ). word_size f) n (λ i b. length-word f (get_or vs (2 * i + 1) 0))
      ∙ sum-equal (word_size f) n

  pub edges-length : (es : List ℕ) (n : ℕ) → length (concat (tab n (λ (i : ℕ). encode_edge f (edge_in es i)))) ≡ edge_size f * n
  edges-length es n =
      fields-length (λ (i : ℕ). encode_edge f (edge_in es i)) (λ (i : ℕ). edge_size f) n (λ i b. edge-length f (edge_in es i))
      ∙ sum-equal (edge_size f) n

  -- where length i and edge i are put
  pub length-at-place : (vs : List ℕ) (i : ℕ) → edges_at f i ≡ lengths_at f + length (concat (tab i (length_bytes f vs)))
  unfolding edges_at
  length-at-place vs i = ap (λ (x : ℕ). lengths_at f + x) (sym (lengths-length vs i))

  pub edge-at-place : (n : ℕ) (es : List ℕ) (i : ℕ) → bytes_at f n i ≡ edges_at f n + length (concat (tab i (λ (j : ℕ). encode_edge f (edge_in es j))))
  unfolding bytes_at
  edge-at-place n es i = ap (λ (x : ℕ). edges_at f n + x) (sym (edges-length es i))

-- ---- sequences

pub part-more : (p : List ℕ) (start i : ℕ) → start + i < length p → part p start (i + 1) ≡ part p start i ++ (get_or p (start + i) 0 ∷ [])
part-more p start i h =
    ap (λ (x : ℕ). take x (drop start p)) (add-one i)
    ∙ take-suc (drop start p) i 0 (omega (arith, length-drop start p))
    ∙ ap (λ (x : ℕ). take i (drop start p) ++ (x ∷ [])) (get_or-drop start p i 0)

pub seqs-length : (vs p : List ℕ) (n : ℕ) → Within (length p) n vs → length (concat (tab n (seq_in vs p))) ≡ bytes_in n vs
seqs-length vs p n W = fields-length (seq_in vs p) (λ (v : ℕ). get_or vs (2 * v + 1) 0) n (λ i b.
    part-long p (get_or vs (2 * i) 0) (get_or vs (2 * i + 1) 0) (W.at i b))

-- those before v, of n
pub seqs-before : (vs p : List ℕ) {n : ℕ} (v : ℕ) → Within (length p) n vs → v ≤ n → length (concat (tab v (seq_in vs p))) ≡ bytes_in v vs
seqs-before vs p v W h = seqs-length vs p v record { at = λ u b. W.at u (omega arith) }

-- ---- the record

bytes-from : (s n : ℕ) (f : ℕ → List ℕ) → sequence_bytes (tab_from s n f) ≡ sum (tab_from s n (λ (i : ℕ). length (f i)))
unfolding tab_from sequence_bytes sum
bytes-from s zero f = refl
bytes-from s (suc n) f = ap (λ (x : ℕ). length (f s) + x) (bytes-from (suc s) n f)

module _ (f : Form) (status k n m : ℕ) (es vs p : List ℕ) (W : Within (length p) n vs) where
  size : (v : ℕ) → v < n → length (seq_in vs p v) ≡ get_or vs (2 * v + 1) 0
  size v b = part-long p (get_or vs (2 * v) 0) (get_or vs (2 * v + 1) 0) (W.at v b)

  pub bytes-are : sequence_bytes (tab n (seq_in vs p)) ≡ bytes_in n vs
  bytes-are = bytes-from 0 n (seq_in vs p) ∙ ap sum (tab-ext n (λ (v : ℕ). length (seq_in vs p v)) (λ (v : ℕ). get_or vs (2 * v + 1) 0) size)

  header : List ℕ
  header = encode_header f 1 status k n m (bytes_in n vs)

  lengths : List ℕ
  lengths = concat (tab n (length_bytes f vs))

  edges : List ℕ
  edges = concat (tab m (λ (i : ℕ). encode_edge f (edge_in es i)))

  lengths-are : concat (map (λ (s : List ℕ). word_bytes f (length s)) (tab n (seq_in vs p))) ≡ lengths
  unfolding lengths
  lengths-are = ap concat (map-tab (λ (s : List ℕ). word_bytes f (length s)) n (seq_in vs p)
      ∙ tab-ext n (λ (v : ℕ). word_bytes f (length (seq_in vs p v))) (length_bytes f vs) (λ v b. ap (word_bytes f) (size v b)))

  edges_are : concat (map (encode_edge f) (tab m (edge_in es))) ≡ edges
  unfolding edges
  edges_are = ap concat (map-tab (encode_edge f) m (edge_in es))

  encode-is : encode f sequence_graph status (graph_in k n m es vs p) ≡ header ++ lengths ++ edges ++ concat (tab n (seq_in vs p))
  unfolding encode record_kind_number node_count header
  encode-is = λ j. encode_header f 1 status k (length-tab n (seq_in vs p) j) (length-tab m (edge_in es) j) (bytes-are j) ++ lengths-are j
      ++ edges_are j ++ concat (tab n (seq_in vs p))

  header-here : length header ≡ lengths_at f
  unfolding header
  header-here = header-length f status k n m (bytes_in n vs)

  front-lengths : length (header ++ lengths) ≡ edges_at f n
  unfolding lengths edges_at
  front-lengths = length-append header lengths ∙ (λ j. header-here j + lengths-length f vs n j)

  front-edges : length (header ++ lengths ++ edges) ≡ bytes_at f n m
  unfolding edges bytes_at
  front-edges = length-append (header ++ lengths) edges ∙ (λ j. front-lengths j + edges-length f es m j)

  -- the length of a held graph's record
  pub encode-length : length (encode f sequence_graph status (graph_in k n m es vs p)) ≡ whole_length f n m (bytes_in n vs)
  unfolding whole_length
  encode-length =
      ap length encode-is
      ∙ length-append (header ++ lengths ++ edges) (concat (tab n (seq_in vs p)))
      ∙ (λ j. front-edges j + seqs-length vs p n W j)

  module _ (l : List ℕ) {l₁ l₂ l₃ l₄ : List ℕ} where
    parts-put : l₁ ≡ sets l 0 (encode_header f 1 status k n m (bytes_in n vs)) → l₂ ≡ sets l₁ (lengths_at f) (concat (tab n (length_bytes f vs)))
        → l₃ ≡ sets l₂ (edges_at f n) (concat (tab m (λ (i : ℕ). encode_edge f (edge_in es i))))
        → {at : ℕ} → at ≡ bytes_at f n m → l₄ ≡ sets l₃ at (concat (tab n (seq_in vs p)))
        → l₄ ≡ sets l 0 (encode f sequence_graph status (graph_in k n m es vs p))
    unfolding header lengths edges
    parts-put p₁ p₂ p₃ {at} q p₄ =
        put_four l header lengths edges (concat (tab n (seq_in vs p))) 0 (lengths_at f) (edges_at f n) at p₁ p₂ p₃ p₄
        (omega (arith, header-here)) (omega (arith, front-lengths)) (omega (arith, front-edges, q))
        ∙ ap (λ (x : List ℕ). sets l 0 x) (sym encode-is)

sets-front : (l w : List ℕ) → length w ≤ length l → sets l 0 w ≡ w ++ drop (length w) l
sets-front l w h = sets-eq w l 0 (omega arith) ∙ ap (λ (x : ℕ). w ++ drop x l) (zero-add (length w))

pub written : {f : Form} {status : ℕ} {h : Held} {es vs p l : List ℕ} → RecordWritable f status h es vs p l → {b r at : ℕ} → b ≡ bytes_in h.n vs
    → at ≡ bytes_at f h.n h.m → r ≡ at + b → {l₁ l₂ l₃ l₄ : List ℕ}
    → l₁ ≡ sets l 0 (encode_header f 1 status h.k.0 h.n h.m b) → l₂ ≡ sets l₁ (lengths_at f) (concat (tab h.n (length_bytes f vs)))
    → l₃ ≡ sets l₂ (edges_at f h.n) (concat (tab h.m (λ (i : ℕ). encode_edge f (edge_in es i))))
    → l₄ ≡ sets l₃ at (concat (tab h.n (seq_in vs p)))
    → RecordWritten f status h es vs p l r l₄
written {f} {status} {h} {es} {vs} {p} {l} W qb qat qr p₁ p₂ p₃ p₄ =
    let e = encode-length f status h.k.0 h.n h.m es vs p W.within in
    let whole = (between f h.n h.m (bytes_in h.n vs)).whole_is in
    record {
      long = omega (arith, e, whole, qb, qat, qr);
      is = parts-put f status h.k.0 h.n h.m es vs p W.within l (p₁
          ∙ ap (λ (x : ℕ). sets l 0 (encode_header f 1 status h.k.0 h.n h.m x)) qb) p₂ p₃ qat p₄
          ∙ sets-front l (encode f sequence_graph status (graph_of h es vs p)) (omega (arith, e, W.room));
    }
