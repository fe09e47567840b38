-- The causes of a written record are those that its graph tells. Assumes nothing.
use Prim.Native.Nat.{ℕ, ◌≤◌, ◌<◌}
use native.Mathlib.Omega.{arith}
use mathlib.Core.Path.{◌≡◌, sym, ap, ◌∙◌}
use mathlib.Core.Bool.{Bool, true, false, not, ◌&&◌, ◌||◌}
use mathlib.Core.List.{List, [], ◌∷◌, ◌++◌}
use lib.Dec.{eqb, ltb, leb}
use lib.ListN.{length, get_or, take}
use borrow.Author.Tests.{eq-eqb, le-ltb}
use Rattle.defs.specs.Lists.{any_of, up_from, same_list, tab, sum}
use Rattle.defs.specs.Forms.{Form, mark, form_of, lengths_at, limits}
use Rattle.defs.specs.SeqGraph.{Edge, Graph, node_count}
use Rattle.defs.specs.Simplify.{sequence_bytes}
use Rattle.defs.specs.Record.{RecordKind, record_kind_number, kind_of, status_of, k_of, vertices_of, edges_of, bytes_of}
use Rattle.defs.specs.Record.{lengths_offset_of, edges_offset_of, bytes_offset_of, whole_of, edges_at, bytes_at, whole_length}
use Rattle.defs.specs.Record.{length_at, edge_at, flag_at, encode, decode}
use Rattle.defs.specs.Refusals.{Takes, takes_kind, other_length, wrong_mark, past_limit, layout_disagrees, bad_edge, any_bad_edge}
use Rattle.defs.specs.Refusals.{doubled_edge, equal_kmers, doubled, has_cycle, layout_causes, record_causes}
use Rattle.laws.proofs.ListLaws.{same_list-refl, or-none}
use Rattle.tabs.proofs.Tabs.{tab-ext, tab-get_or}
use Rattle.tabs.proofs.ListTabs.{any-tab}
use Rattle.form.proofs.FormLaws.{between}
use Rattle.codec.specs.Encodable.{Encodable}
use Rattle.codec.proofs.Encoded.{form-written, length-written, k-read, vertices-read, edges-read, length-read, edge-read}
use Rattle.codec.proofs.RoundTrip.{decode-encode}
use Rattle.sound.specs.Alike.{no_edge}
use Rattle.reread.specs.GraphCauses.{wrong_kind, graph_past_limit, other_kmers, ends_past, graph_doubled, graph_layout_causes, graph_causes}
use Rattle.reread.proofs.Fields.{mark-written, kind-written, status-written, bytes-written, lengths-at-written}
use Rattle.reread.proofs.Fields.{edges-at-written, bytes-at-written, stated-written, flag-written, sum-written}

-- a test by index that is a test of the member
any-member : {A : Type 0} (p : ℕ → Bool) (q : A → Bool) (d : A) (l : List A) → ((i : ℕ) → i < length l → p i ≡ q (get_or l i d))
    → any_of p (up_from 0 (length l)) ≡ any_of q l
any-member p q d l h =
    sym (any-tab (λ (b : Bool). b) (length l) p)
    ∙ ap (any_of (λ (b : Bool). b)) (tab-ext (length l) p (λ i. q (get_or l i d)) h)
    ∙ any-tab (λ (b : Bool). b) (length l) (λ i. q (get_or l i d))
    ∙ sym (any-tab q (length l) (λ i. get_or l i d))
    ∙ ap (any_of q) (tab-get_or l d)

module _ (f : Form) (kind : RecordKind) (status : ℕ) (g : Graph) (ok : Encodable f g)
    (small : whole_length f (node_count g) (length g.edges) (sequence_bytes g.verts) < 4294967296) where
  abbrev bs : List ℕ
  bs = encode f kind status g

  abbrev n : ℕ
  n = record_kind_number kind

  kind-is : kind_of bs ≡ n
  kind-is = kind-written f kind status g

  -- its own form and counts give its length
  pub whole-written : length bs ≡ whole_length (form_of bs) (vertices_of bs) (edges_of bs) (bytes_of bs)
  whole-written =
      length-written f kind status g
      ∙ sym (λ i. whole_length (form-written f kind status g i) (vertices-read f kind status g ok i) (edges-read f kind status g ok i)
      (bytes-written f kind status g small i))

  -- 1
  told-1 : other_length bs ≡ false
  unfolding other_length
  told-1 =
      let B = between (form_of bs) (vertices_of bs) (edges_of bs) (bytes_of bs) in
      let long : lengths_at (form_of bs) ≤ length bs = omega (arith, whole-written, B.whole_is, B.bytes-least, B.header-before) in
      λ i. le-ltb (length bs) (lengths_at (form_of bs)) long i || not (eq-eqb (whole_of bs) (length bs) (stated-written f kind status g small) i)

  -- 2
  told-2 : (t : Takes) → wrong_mark t bs ≡ wrong_kind t kind status
  unfolding wrong_mark wrong_kind
  told-2 t =
      let marked : take 4 bs ≡ mark (form_of bs) = mark-written f kind status g ∙ ap mark (sym (form-written f kind status g)) in
      let same : same_list (take 4 bs) (mark (form_of bs)) ≡ true =
      ap (λ (l : List ℕ). same_list l (mark (form_of bs))) marked ∙ same_list-refl (mark (form_of bs)) in
      let s : status_of bs ≡ status = status-written f kind status g in
      λ i. not (same i) || (not (takes_kind t (kind-is i)) || (ltb 2 (s i) || (eqb (kind-is i) 0 && not (eqb (s i) 0))))

  -- 3
  told-3 : past_limit bs ≡ graph_past_limit f kind g
  unfolding past_limit graph_past_limit
  told-3 =
      let o = form-written f kind status g in
      let k = k-read f kind status g ok in
      let v = vertices-read f kind status g ok in
      let e = edges-read f kind status g ok in
      let b = bytes-written f kind status g small in
      λ i.
      ltb (k i) 2 || (ltb 128 (k i) || (ltb (limits (o i)).vertices (v i) || (ltb (limits (o i)).edges (e i)
      || (eqb (kind-is i) 1 && ltb (limits (o i)).bytes (b i)))))

  -- 4
  kmers-told : any_of (λ i. not (eqb (length_at bs i) (k_of bs))) (up_from 0 (vertices_of bs)) ≡ any_of (λ s. not (eqb (length s) g.k)) g.verts
  unfolding node_count
  kmers-told =
      let k = k-read f kind status g ok in
      ap (λ m. any_of (λ i. not (eqb (length_at bs i) (k_of bs))) (up_from 0 m)) (vertices-read f kind status g ok)
      ∙ any-member (λ i. not (eqb (length_at bs i) (k_of bs))) (λ s. not (eqb (length s) g.k)) [] g.verts (λ i h j.
      not (eqb (length-read f kind status g ok i h j) (k j)))

  told-4 : layout_disagrees bs ≡ other_kmers kind g
  unfolding layout_disagrees other_kmers
  told-4 =
      let o = form-written f kind status g in
      let v = vertices-read f kind status g ok in
      let e = edges-read f kind status g ok in
      let lengths : lengths_offset_of bs ≡ lengths_at (form_of bs) = lengths-at-written f kind status g small ∙ ap lengths_at (sym o) in
      let edges : edges_offset_of bs ≡ edges_at (form_of bs) (vertices_of bs) =
      edges-at-written f kind status g small ∙ sym (λ i. edges_at (o i) (v i)) in
      let bytes : bytes_offset_of bs ≡ bytes_at (form_of bs) (vertices_of bs) (edges_of bs) =
      bytes-at-written f kind status g small ∙ sym (λ i. bytes_at (o i) (v i) (e i)) in
      let sums : sum (tab (vertices_of bs) (length_at bs)) ≡ bytes_of bs = sum-written f kind status g ok ∙ sym (bytes-written f kind status g small) in
      λ i.
      not (eq-eqb _ _ lengths i) || (not (eq-eqb _ _ edges i) || (not (eq-eqb _ _ bytes i) || (not (eq-eqb _ _ whole-written i) || (not (eq-eqb _ _ sums i)
      || (eqb (kind-is i) 0 && kmers-told i)))))

  -- 5: every flag that is written is right
  edge-told : (i : ℕ) → i < length g.edges
      → bad_edge bs i ≡ (leb (node_count g) (get_or g.edges i no_edge).from || leb (node_count g) (get_or g.edges i no_edge).to)
  unfolding bad_edge
  edge-told i h =
      let e : edge_at bs i ≡ get_or g.edges i no_edge = edge-read f kind status g ok no_edge i h in
      let v = vertices-read f kind status g ok in
      let flag = le-ltb 3 (flag_at bs i) (flag-written f kind status g ok i h) in
      (λ j. leb (v j) (e j).from || (leb (v j) (e j).to || flag j))
      ∙ ap (λ b. leb (node_count g) (get_or g.edges i no_edge).from || b) (sym (or-none _))

  told-5 : any_bad_edge bs ≡ ends_past g
  unfolding any_bad_edge ends_past
  told-5 =
      ap (λ m. any_of (bad_edge bs) (up_from 0 m)) (edges-read f kind status g ok)
      ∙ any-member (bad_edge bs) (λ (e : Edge). leb (node_count g) e.from || leb (node_count g) e.to) no_edge g.edges edge-told

  -- the graph is read back, and tells 6 and 7
  graph_is : decode bs ≡ g
  graph_is = decode-encode f kind status g ok

  pub doubled-told : doubled (encode f kind status g) ≡ graph_doubled kind g
  unfolding doubled graph_doubled
  doubled-told = λ i. doubled_edge (graph_is i).edges || (eqb (kind-is i) 0 && equal_kmers (graph_is i).verts)

  told-7 : has_cycle (decode bs) ≡ has_cycle g
  told-7 = ap has_cycle graph_is

  pub layout-causes-told : (t : Takes) → layout_causes t (encode f kind status g) ≡ graph_layout_causes f t kind status g
  unfolding layout_causes graph_layout_causes
  layout-causes-told t = λ i.
      record { number = 1; present = told-1 i }
      ∷ record { number = 2; present = told-2 t i }
      ∷ record { number = 3; present = told-3 i }
      ∷ record { number = 4; present = told-4 i }
      ∷ record { number = 5; present = told-5 i }
      ∷ []

  -- THE CAUSES OF A WRITTEN RECORD ARE THOSE THAT ITS GRAPH TELLS
  pub causes-told : (t : Takes) → record_causes t (encode f kind status g) ≡ graph_causes f t kind status g
  unfolding record_causes graph_causes
  causes-told t = λ i.
      layout-causes-told t i ++ (record { number = 6; present = doubled-told i } ∷ record { number = 7; present = told-7 i } ∷ [])
