-- The new vertices and edges by index are the definition's. Assumes nothing.
use mathlib.Core.Path.{◌≡◌, sym, ap, ◌∙◌}
use mathlib.Core.Bool.{true, false}
use mathlib.Core.List.{List, [], ◌∷◌, ◌++◌, map, append_assoc, append-nil}
use Prim.Native.Nat.{ℕ, zero, suc, ◌+◌, ◌*◌, ◌-◌, ◌≤◌, ◌<◌}
use native.Mathlib.Nat.{zero-add}
use native.Mathlib.Numerals.{add-one}
use native.Mathlib.Omega.{arith}
use lib.ListN.{length, get_or, take, drop, length-append}
use lib.Seq.{take-take}
use borrow.Author.Tests.{lt-ltb, le-ltb}
use Rattle.defs.specs.Lists.{tab, concat}
use Rattle.defs.specs.SeqGraph.{Edge, Graph, edges_into, edges_from, edge_data, new_edge}
use Rattle.defs.specs.Rewrites.{support_one, process_edge, redirected_to, suffix_and_prefix, suffix_and_prefix_edges, without_suffix, split_vertices, split_edges}
use Rattle.laws.proofs.Whole.{by_list}
use Rattle.tabs.proofs.Tabs.{tab-snoc, tab-zero}
use Rattle.tabs.proofs.SumTabs.{concat-snoc}
use Rattle.store.specs.Store.{part, edge_in, seq_in, graph_in, nums_in, Within}
use Rattle.store.proofs.VertexLaws.{part-long, seq-at}
use Rattle.compact.specs.Compact.{Below}
use Rattle.index.specs.Index.{Indexed}
use Rattle.index.proofs.IndexLaws.{from_is, at_first, pair-first}
use Rattle.redirect.proofs.SameLaws.{into-all}
use Rattle.split_suffix.specs.Split.{has_prefix, entry_number, block_edges, suffix_number, node_edges, suffix_edges, new_seqs, suffix_verts}

-- ---- one predecessor more

module _ (g : Graph) (bottom : ℕ) (suffix : List ℕ) where
  abbrev rest : ℕ → List ℕ
  rest v = without_suffix g (length suffix) v

  -- its edges, where its suffix vertex is y
  abbrev pub block : ℕ → ℕ → List Edge
  block y v = suffix_and_prefix_edges bottom y (without_suffix g (length suffix) v) (edges_into g v) (process_edge g v (edges_from g v))

  verts-snoc : (ps : List ℕ) (v : ℕ) → split_vertices g suffix (ps ++ (v ∷ [])) ≡ split_vertices g suffix ps ++ suffix_and_prefix suffix (rest v)
  unfolding split_vertices
  verts-snoc [] v = append-nil _
  verts-snoc (x ∷ ps) v = ap (λ (l : List (List ℕ)). suffix_and_prefix suffix (rest x) ++ l) (verts-snoc ps v)
      ∙ sym (append_assoc (suffix_and_prefix suffix (rest x)) (split_vertices g suffix ps) (suffix_and_prefix suffix (rest v)))

  edges-snoc : (ps : List ℕ) (n v : ℕ) → split_edges g bottom suffix n (ps ++ (v ∷ [])) ≡ split_edges g bottom suffix n ps
      ++ block (length (split_vertices g suffix ps) + n) v
  unfolding split_vertices split_edges
  edges-snoc [] n v = append-nil _ ∙ ap (λ (x : ℕ). block x v) (omega arith)
  edges-snoc (x ∷ ps) n v =
      ap (λ (l : List Edge). block n x ++ l) (edges-snoc ps (length (suffix_and_prefix suffix (rest x)) + n) v)
      ∙ sym (append_assoc (block n x) (split_edges g bottom suffix (length (suffix_and_prefix suffix (rest x)) + n) ps) _)
      ∙ ap (λ (y : ℕ). (block n x ++ split_edges g bottom suffix (length (suffix_and_prefix suffix (rest x)) + n) ps) ++ block y v)
      (omega (arith, length-append (suffix_and_prefix suffix (rest x)) (split_vertices g suffix ps)))

-- ---- by index

module _ (k n m s from : ℕ) (es vs p heads nexts nodes : List ℕ) (c bottom : ℕ) (suffix : List ℕ) (I : Indexed m n es heads nexts) (W :
    Within (length p) n vs) (B : Below nodes c n)
    (suffix-is : suffix ≡ part p from s) (suffix-long : length suffix ≡ s) (all : (i : ℕ) → i < c → s ≤ get_or vs (2 * get_or nodes i 0 + 1) 0)
    (outs : (i : ℕ) → i < c → get_or heads (2 * get_or nodes i 0) 0 < m) where
  abbrev g : Graph
  g = graph_in k n m es vs p

  abbrev size : ℕ → ℕ
  size v = get_or vs (2 * v + 1) 0

  rest-is : (v : ℕ) → v < n → without_suffix g (length suffix) v ≡ part p (get_or vs (2 * v) 0) (size v - s)
  unfolding without_suffix
  rest-is v b =
      (λ i. take (length (seq-at k n m es vs p v b i) - suffix-long i) (seq-at k n m es vs p v b i))
      ∙ ap (λ (x : ℕ). take (x - s) (seq_in vs p v)) (part-long p _ _ (W.at v b))
      ∙ take-take (size v - s) (size v) (drop (get_or vs (2 * v) 0) p) (omega arith)

  rest-long : (v : ℕ) → v < n → length (without_suffix g (length suffix) v) ≡ size v - s
  rest-long v b = ap length (rest-is v b) ∙ part-long p (get_or vs (2 * v) 0) (size v - s) (omega (arith, W.at v b))

  -- nothing is left, or something
  cases : {X : Type 0} (v : ℕ) → v < n → s ≤ size v → (without_suffix g (length suffix) v ≡ [] → has_prefix vs s v ≡ false → X)
      → ((x : ℕ) (xs : List ℕ) → without_suffix g (length suffix) v ≡ x ∷ xs → has_prefix vs s v ≡ true → X) → X
  cases v b h none some = by_list (without_suffix g (length suffix) v)
      (λ e. none e (le-ltb s (size v) (omega (arith, rest-long v b, ap length e))))
      (λ x xs e. some x xs e (lt-ltb s (size v) (omega (arith, rest-long v b, ap length e))))

  seqs-are : (v : ℕ) → v < n → s ≤ size v → new_seqs vs p from s v ≡ suffix_and_prefix suffix (without_suffix g (length suffix) v)
  unfolding suffix_and_prefix
  seqs-are v b h = cases v b h
      (λ e t. rw (t, e) (ap (λ (l : List ℕ). l ∷ []) (sym suffix-is)))
      (λ x xs e t. rw (t, e) (λ i. sym suffix-is i ∷ (sym (rest-is v b) ∙ e) i ∷ []))

  count-is : (v : ℕ) → v < n → s ≤ size v → (y : ℕ) → entry_number (has_prefix vs s v) y + 1 ≡ length (suffix_and_prefix suffix (without_suffix g (length suffix) v)) + y
  unfolding suffix_and_prefix
  count-is v b h y = cases v b h (λ e t. rw (t, e) (omega arith)) (λ x xs e t. rw (t, e) (omega arith))

  out-is : (v : ℕ) → v < n → get_or heads (2 * v) 0 < m → process_edge g v (edges_from g v) ≡ edge_data (edge_in es (get_or heads (2 * v) 0))
  unfolding process_edge edge_data
  out-is v b h = ap (process_edge g v) (from_is k n m es vs p v
      ∙ ap (map (edge_in es)) (at_first (I.index 0 (omega arith)) b (get_or heads (2 * v) 0)
      (pair-first heads v) h))

  block-are : (v : ℕ) → v < n → s ≤ size v → get_or heads (2 * v) 0 < m → (y : ℕ) → block_edges y bottom (has_prefix vs s v) heads m es v
      ≡ block g bottom suffix y v
  unfolding suffix_and_prefix_edges new_edge edge_data support_one
  block-are v b h o y = cases v b h
      (λ e t. rw (t, e) (λ i. new_edge y bottom (sym (out-is v b o) i) ∷ into-all y k n m es vs p v i))
      (λ x xs e t. rw (t, e) (λ i. new_edge (add-one y i) y (support_one (sym (out-is v b o) i).is_ref)
      ∷ new_edge y bottom (sym (out-is v b o) i) ∷ (into-all (y + 1) k n m es vs p v
      ∙ ap (λ (z : ℕ). map (redirected_to z) (edges_into g v)) (add-one y)) i))

  pub number-are : (i : ℕ) → i ≤ c → suffix_number vs nodes s n i ≡ length (split_vertices g suffix (nums_in i nodes)) + n
  unfolding suffix_number split_vertices
  number-are zero h = sym (zero-add n) ∙ ap (λ (l : List ℕ). length (split_vertices g suffix l) + n) (sym (tab-zero (λ (j : ℕ). get_or nodes j 0)))
  number-are (suc i) h = step (number-are i (omega arith))
    where
      step : suffix_number vs nodes s n i ≡ length (split_vertices g suffix (nums_in i nodes)) + n → suffix_number vs nodes s n (suc i)
          ≡ length (split_vertices g suffix (nums_in (suc i) nodes)) + n
      step ih =
          let v = get_or nodes i 0 in
          count-is v (B.at i (omega arith)) (all i (omega arith)) (suffix_number vs nodes s n i)
          ∙ omega (
            arith,
            ih,
            length-append (split_vertices g suffix (nums_in i nodes)) (suffix_and_prefix suffix (without_suffix g (length suffix) v)),
            ap length (verts-snoc g bottom suffix (nums_in i nodes) v),
            ap (λ (l : List ℕ). length (split_vertices g suffix l)) (ap (λ (x : ℕ). nums_in x nodes) (sym (add-one i)) ∙ tab-snoc i (λ (j : ℕ). get_or nodes j 0)),
          )

  pub verts-are : (i : ℕ) → i ≤ c → suffix_verts vs p nodes from s i ≡ split_vertices g suffix (nums_in i nodes)
  unfolding split_vertices concat
  verts-are zero h = ap concat (tab-zero (λ (j : ℕ). new_seqs vs p from s (get_or nodes j 0)))
      ∙ ap (split_vertices g suffix) (sym (tab-zero (λ (j : ℕ). get_or nodes j 0)))
  verts-are (suc i) h = step (verts-are i (omega arith))
    where
      f : ℕ → List (List ℕ)
      f j = new_seqs vs p from s (get_or nodes j 0)

      step : suffix_verts vs p nodes from s i ≡ split_vertices g suffix (nums_in i nodes) → suffix_verts vs p nodes from s (suc i)
          ≡ split_vertices g suffix (nums_in (suc i) nodes)
      step ih =
          ap (λ (x : ℕ). suffix_verts vs p nodes from s x) (sym (add-one i)) ∙ ap concat (tab-snoc i f) ∙ concat-snoc (tab i f) (f i)
          ∙ (λ j. ih j ++ seqs-are (get_or nodes i 0) (B.at i (omega arith)) (all i (omega arith)) j)
          ∙ sym (verts-snoc g bottom suffix (nums_in i nodes) (get_or nodes i 0))
          ∙ ap (split_vertices g suffix) (sym (ap (λ (x : ℕ). nums_in x nodes) (sym (add-one i)) ∙ tab-snoc i (λ (j : ℕ). get_or nodes j 0)))

  pub edges_are : (i : ℕ) → i ≤ c → suffix_edges heads m n s es vs nodes bottom i ≡ split_edges g bottom suffix n (nums_in i nodes)
  unfolding split_edges concat
  edges_are zero h = ap concat (tab-zero (node_edges heads m n s es vs nodes bottom))
      ∙ ap (split_edges g bottom suffix n) (sym (tab-zero (λ (j : ℕ). get_or nodes j 0)))
  edges_are (suc i) h = step (edges_are i (omega arith))
    where
      f : ℕ → List Edge
      f = node_edges heads m n s es vs nodes bottom

      step : suffix_edges heads m n s es vs nodes bottom i ≡ split_edges g bottom suffix n (nums_in i nodes)
          → suffix_edges heads m n s es vs nodes bottom (suc i) ≡ split_edges g bottom suffix n (nums_in (suc i) nodes)
      step ih =
          ap (λ (x : ℕ). suffix_edges heads m n s es vs nodes bottom x) (sym (add-one i)) ∙ ap concat (tab-snoc i f) ∙ concat-snoc (tab i f) (f i)
          ∙ (λ j. ih j ++ (block-are (get_or nodes i 0) (B.at i (omega arith)) (all i (omega arith)) (outs i (omega arith))
          (suffix_number vs nodes s n i) ∙ ap (λ (y : ℕ). block g bottom suffix y (get_or nodes i 0)) (number-are i (omega arith))) j)
          ∙ sym (edges-snoc g bottom suffix (nums_in i nodes) n (get_or nodes i 0))
          ∙ ap (split_edges g bottom suffix n) (sym (ap (λ (x : ℕ). nums_in x nodes) (sym (add-one i)) ∙ tab-snoc i (λ (j : ℕ). get_or nodes j 0)))
