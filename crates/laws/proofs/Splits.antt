-- A split keeps the strings.
-- Assumes nothing.
use Prim.Native.Nat.{ℕ, zero, suc, ◌+◌, ◌-◌, ◌*◌, ◌≤◌, ◌<◌}
use native.Mathlib.Omega.{arith}
use native.Mathlib.Nat.{not-suc-le-zero, le_of_suc-le-suc, add-zero, zero-add}
use mathlib.Core.Path.{◌≡◌, refl, sym, ap, ◌∙◌}
use mathlib.Core.Logic.{◌⊎◌, inl, inr, ⊎_elim, ◌↔◌}
use mathlib.Core.Bool.{Bool, true, cond, not, ◌&&◌, ◌||◌, true≢false, false≢true}
use mathlib.Core.Option.{Option, none, some}
use mathlib.Core.List.Memᴰ
use mathlib.Core.List.{List, [], ◌∷◌, ◌++◌, map, append_assoc, append-nil, Memᴰ}
use lib.Dec.{eqb, ltb, leb}
use lib.ListN.{length, get_or, take, length-append, get_or-append}
use lib.Seq.{take_at, get_or-append-add}
use borrow.Author.Tests.{eqb-true, eq-eqb, ne_eqb, ltb-true, lt-ltb, le-ltb, leb-true, not-true, not-false}
use Rattle.defs.specs.Lists.{all_of, elem_of, common_suffix}
use Rattle.defs.specs.SeqGraph.{Edge, Graph, node_count, vertex_sequence, edges_into, edges_from, incoming_nodes, outgoing_nodes, out_degree, EdgeData, new_edge, edge_data}
use Rattle.defs.specs.SeqGraph.{keeps, Change, with_additions, apply_change}
use Rattle.defs.specs.Rewrites.{splits_suffix, split_suffix, split_change, process_edge, redirected_to}
use Rattle.defs.specs.Rewrites.{suffix_and_prefix, suffix_and_prefix_edges, without_suffix, split_vertices, split_edges, non_empty, is_split}
use Rattle.defs.specs.Rewrites.{try_split_common_suffix, would_eliminate_ref_source}
use Rattle.defs.specs.Strings.{HasEdge, Spells}
use Rattle.laws.proofs.Walks.{Net, Pt, start, at, stop, Go, text, Steps, stay, step, single, then, cast, Tour, hit, pass, kept}
use Rattle.laws.proofs.ListLaws.{clash, by_order, given-some, and_split}
use Rattle.laws.proofs.Nets.{Ranks, net_of, part_of, Bounded, edge-inside}
use Rattle.laws.proofs.Edges.{Linked, linked-cases, linked-tail, keeps-not, keeps-other, order-grown, seq-grown-new, seq-grown-old}
use Rattle.laws.proofs.Edges.{all_of-mem, nonempty, of-edges_into, in-edges_into, only_out_lem, of-mem-ins, mem-ins}
use Rattle.laws.proofs.SharedLaws.{shared_suffix-each}
use Rattle.laws.proofs.SplitWith.{linked-append, linked-left, linked-right}
use Rattle.laws.proofs.Sound.{Sound, Keeps}
use Rattle.laws.proofs.Changes.{Local, Forth, Back, common, common-is, is-common, link-U, of-U-new, of-grown}
use Rattle.laws.proofs.Changes.{spells-change, old-less, ranks-change, bounded-change}

module _ (g : Graph) (bottom : ℕ) (suffix : List ℕ) where
  abbrev pub remaining : ℕ → List ℕ
  remaining m = without_suffix g (length suffix) m

  -- one vertex, or two where something is left
  pub width : ℕ → ℕ
  width m = length (suffix_and_prefix suffix (remaining m))

  -- m is one of ms, and its suffix vertex is k, where the first number given out is n
  pub Block : ℕ → List ℕ → ℕ → ℕ → Type 0
  Block n [] k m = ⊥
  Block n (x ∷ xs) k m = ((m ≡ x) × (k ≡ n)) ⊎ Block (width x + n) xs k m

  pub widths : List ℕ → ℕ
  widths [] = 0
  widths (x ∷ xs) = width x + widths xs

  pub width-cases : {X : Type 0} (m : ℕ) → (remaining m ≡ [] → width m ≡ 1 → X) → (non_empty (remaining m) ≡ true → width m ≡ 2 → X) → X
  unfolding width suffix_and_prefix non_empty
  width-cases {X} m k h = go (remaining m) refl
    where
      go : (l : List ℕ) → remaining m ≡ l → X
      go [] e = k e (ap (λ x. length (suffix_and_prefix suffix x)) e)
      go (x ∷ l) e = h (ap non_empty e) (ap (λ x. length (suffix_and_prefix suffix x)) e)

  pub block_of : (n : ℕ) (ms : List ℕ) (m : ℕ) → Memᴰ m ms → (k : ℕ) × Block n ms k m
  unfolding Block
  block_of n [] m h = absurd (Memᴰ.not-nil h)
  block_of n (x ∷ xs) m h = ⊎_elim {C = (k : ℕ) × Block n (x ∷ xs) k m} (λ e. (n, inl (e, refl))) (λ i. let r =
      block_of (width x + n) xs m i in (r.0, inr r.1)) (Memᴰ.cases_cons h)

  pub block-mem : (n : ℕ) (ms : List ℕ) (k m : ℕ) → Block n ms k m → Memᴰ m ms
  unfolding Block
  block-mem n [] k m b = absurd b
  block-mem n (x ∷ xs) k m b = ⊎_elim (λ e. Memᴰ.head e.0) (λ c. Memᴰ.tail (block-mem (width x + n) xs k m c)) b

  pub block-range : (n : ℕ) (ms : List ℕ) (k m : ℕ) → Block n ms k m → (n ≤ k) × (k + width m ≤ n + widths ms)
  unfolding Block widths
  block-range n [] k m b = absurd b
  block-range n (x ∷ xs) k m b = ⊎_elim (λ e. rw (e.0, e.1) (omega arith)) (λ c. let h = block-range (width x + n) xs k m c in omega arith) b

  -- two blocks are one, or apart
  pub block_apart : (n : ℕ) (ms : List ℕ) (k m k' m' : ℕ) → Block n ms k m → Block n ms k' m' → ((k ≡ k') × (m ≡ m'))
      ⊎ ((k + width m ≤ k') ⊎ (k' + width m' ≤ k))
  unfolding Block
  block_apart n [] k m k' m' b c = absurd b
  block_apart n (x ∷ xs) k m k' m' b c =
      ⊎_elim
      (λ e. ⊎_elim (λ f. inl (e.1 ∙ sym f.1, e.0 ∙ sym f.0)) (λ f. let h = block-range (width x + n) xs k' m' f in
      inr (inl (rw (e.0, e.1) (omega arith)))) c)
      (λ e. ⊎_elim (λ f. let h = block-range (width x + n) xs k m e in inr (inr (rw (f.0, f.1) (omega arith)))) (λ f.
      block_apart (width x + n) xs k m k' m' e f) c)
      b

  -- each number is in a block
  pub block_at : (n : ℕ) (ms : List ℕ) (y : ℕ) → n ≤ y → y < n + widths ms → (k : ℕ) × (m : ℕ) × Block n ms k m × (k ≤ y) × (y < k + width m)
  unfolding Block widths
  block_at n [] y a b = absurd (omega arith)
  block_at n (x ∷ xs) y a b = by_order (width x + n) y
      (λ h. let r = block_at (width x + n) xs y h (omega arith) in (r.0, r.1, inr r.2, r.3, r.4))
      (λ h. (n, x, inl (refl, refl), a, omega arith))

  -- the new sequences
  pub length-verts : (ms : List ℕ) → length (split_vertices g suffix ms) ≡ widths ms
  unfolding split_vertices widths width
  length-verts [] = refl
  length-verts (x ∷ xs) = length-append (suffix_and_prefix suffix (remaining x)) (split_vertices g suffix xs) ∙ ap (λ z. width x + z) (length-verts xs)

  pub vert-at : (n : ℕ) (ms : List ℕ) (k m j : ℕ) → Block n ms k m → j < width m → (i : ℕ) → n + i ≡ k + j
      → get_or (split_vertices g suffix ms) i [] ≡ get_or (suffix_and_prefix suffix (remaining m)) j []
  unfolding split_vertices Block width
  vert-at n [] k m j b h i e = absurd b
  vert-at n (x ∷ xs) k m j b h i e = ⊎_elim
      (λ f. let q : i ≡ j = omega (arith, f.1) in rw (q, f.0)
      (get_or-append (suffix_and_prefix suffix (remaining x)) (split_vertices g suffix xs) [] j (rw f.0 at h)))
      (λ f. let a = block-range (width x + n) xs k m f in
      let q : i ≡ length (suffix_and_prefix suffix (remaining x)) + (i - width x) = omega arith in
      ap (λ z. get_or (suffix_and_prefix suffix (remaining x) ++ split_vertices g suffix xs) z []) q
      ∙ (get_or-append-add (suffix_and_prefix suffix (remaining x)) (split_vertices g suffix xs) (i - width x) []
      ∙ vert-at (width x + n) xs k m j f h (i - width x) (omega arith)))
      b

  -- where the way into a block leads
  pub entry : ℕ → ℕ → ℕ
  entry k m = cond (non_empty (remaining m)) (suc k) k

  pub entry-one : (k m : ℕ) → remaining m ≡ [] → entry k m ≡ k
  unfolding entry non_empty
  entry-one k m e = rw e

  pub entry-two : (k m : ℕ) → non_empty (remaining m) ≡ true → entry k m ≡ suc k
  unfolding entry
  entry-two k m e = rw e

  abbrev pub block_edges : ℕ → ℕ → List Edge
  block_edges k m = suffix_and_prefix_edges bottom k (remaining m) (edges_into g m) (process_edge g m (edges_from g m))

  pub of-into : (y m : ℕ) (u v : ℕ) → Linked (map (redirected_to y) (edges_into g m)) u v → HasEdge g u m × (v ≡ y)
  unfolding redirected_to new_edge
  of-into y m u v (e, k, p, q) =
      let a = Memᴰ.of_map (redirected_to y) (edges_into g m) k in
      let b = of-edges_into g m a.0 a.1 in
      ((a.0, b.0, ap (λ (e : Edge). e.from) a.2 ∙ p, b.1), sym q ∙ sym (ap (λ (e : Edge). e.to) a.2))

  pub in-into : (y m : ℕ) (u : ℕ) → HasEdge g u m → Linked (map (redirected_to y) (edges_into g m)) u y
  unfolding redirected_to new_edge
  in-into y m u (e, k, p, q) = (redirected_to y e, Memᴰ.map (redirected_to y) (in-edges_into g m e k q), p, refl)

  pub of-block : {X : Type 0} (k m u v : ℕ) → Linked (block_edges k m) u v → (non_empty (remaining m) ≡ true → u ≡ suc k → v ≡ k → X)
      → (u ≡ k → v ≡ bottom → X) → (HasEdge g u m → v ≡ entry k m → X) → X
  unfolding suffix_and_prefix_edges new_edge non_empty entry
  of-block {X} k m u v l f₁ f₂ f₃ = go (remaining m) refl (λ e. e) l
    where
      go : (x : List ℕ) → remaining m ≡ x → (v ≡ cond (non_empty x) (suc k) k → v ≡ entry k m)
          → Linked (suffix_and_prefix_edges bottom k x (edges_into g m) (process_edge g m (edges_from g m))) u v → X
      go [] e h l = linked-cases _ _ u v l (λ a b. f₂ (sym a) (sym b)) (λ j. let z = of-into k m u v j in f₃ z.0 (h z.1))
      go (x ∷ xs) e h l = linked-cases _ _ u v l (λ a b. f₁ (ap non_empty e) (sym a) (sym b)) (λ i.
          linked-cases _ _ u v i (λ a b. f₂ (sym a) (sym b)) (λ j. let z = of-into (suc k) m u v j in f₃ z.0 (h z.1)))

  pub in-block₁ : (k m : ℕ) → non_empty (remaining m) ≡ true → Linked (block_edges k m) (suc k) k
  unfolding suffix_and_prefix_edges new_edge non_empty
  in-block₁ k m h = go (remaining m) h
    where
      go : (x : List ℕ) → non_empty x ≡ true → Linked (suffix_and_prefix_edges bottom k x (edges_into g m) (process_edge g m (edges_from g m))) (suc k) k
      go [] h = clash h refl
      go (x ∷ xs) h = (_, Memᴰ.head refl, refl, refl)

  pub in-block₂ : (k m : ℕ) → Linked (block_edges k m) k bottom
  unfolding suffix_and_prefix_edges new_edge
  in-block₂ k m = go (remaining m)
    where
      go : (x : List ℕ) → Linked (suffix_and_prefix_edges bottom k x (edges_into g m) (process_edge g m (edges_from g m))) k bottom
      go [] = (_, Memᴰ.head refl, refl, refl)
      go (x ∷ xs) = (_, Memᴰ.tail (Memᴰ.head refl), refl, refl)

  pub in-block₃ : (k m u : ℕ) → HasEdge g u m → Linked (block_edges k m) u (entry k m)
  unfolding suffix_and_prefix_edges entry non_empty
  in-block₃ k m u h = go (remaining m)
    where
      go : (x : List ℕ) → Linked (suffix_and_prefix_edges bottom k x (edges_into g m) (process_edge g m (edges_from g m))) u (cond (non_empty x) (suc k) k)
      go [] = linked-tail u k (in-into k m u h)
      go (x ∷ xs) = linked-tail u (suc k) (linked-tail u (suc k) (in-into (suc k) m u h))

  pub of-all : (n : ℕ) (ms : List ℕ) (u v : ℕ) → Linked (split_edges g bottom suffix n ms) u v → (k : ℕ) × (m : ℕ) × Block n ms k m × Linked (block_edges k m) u v
  unfolding split_edges Block width
  of-all n [] u v l = absurd (Memᴰ.not-nil l.1)
  of-all n (x ∷ xs) u v l = linked-append (block_edges n x) (split_edges g bottom suffix (width x + n) xs) u v l
      (λ h. (n, x, inl (refl, refl), h))
      (λ h. let r = of-all (width x + n) xs u v h in (r.0, r.1, inr r.2, r.3))

  pub in_all : (n : ℕ) (ms : List ℕ) (k m u v : ℕ) → Block n ms k m → Linked (block_edges k m) u v → Linked (split_edges g bottom suffix n ms) u v
  unfolding split_edges Block width
  in_all n [] k m u v b l = absurd b
  in_all n (x ∷ xs) k m u v b l = ⊎_elim
      (λ e. linked-left (block_edges n x) (split_edges g bottom suffix (width x + n) xs) u v (rw (e.0, e.1) at l))
      (λ e. linked-right (block_edges n x) (split_edges g bottom suffix (width x + n) xs) u v (in_all (width x + n) xs k m u v e l))
      b

  -- ranks of the new vertices
  pub risen : (r : ℕ → ℕ) → ℕ → List ℕ → ℕ → ℕ
  risen r n [] y = 0
  risen r n (x ∷ xs) y = cond (ltb y (width x + n)) (cond (eqb y n) (2 * r x + 1) (2 * r x)) (risen r (width x + n) xs y)

  pub risen-one : (r : ℕ → ℕ) (n : ℕ) (ms : List ℕ) (k m : ℕ) → Block n ms k m → risen r n ms k ≡ 2 * r m + 1
  unfolding risen Block
  risen-one r n [] k m b = absurd b
  risen-one r n (x ∷ xs) k m b = ⊎_elim
      (λ e. rw (e.0, e.1, lt-ltb n (width x + n) (width-cases x (λ _ w. omega arith) (λ _ w. omega arith)), eq-eqb n n refl))
      (λ e. rw (le-ltb k (width x + n) (block-range (width x + n) xs k m e).0) (risen-one r (width x + n) xs k m e))
      b

  pub risen-two : (r : ℕ → ℕ) (n : ℕ) (ms : List ℕ) (k m : ℕ) → Block n ms k m → width m ≡ 2 → risen r n ms (suc k) ≡ 2 * r m
  unfolding risen Block
  risen-two r n [] k m b w = absurd b
  risen-two r n (x ∷ xs) k m b w = ⊎_elim
      (λ e. rw (e.0, e.1, lt-ltb (suc n) (width x + n) (omega (arith, ap width e.0)), ne_eqb (suc n) n (λ i. omega arith)))
      (λ e. let h = block-range (width x + n) xs k m e in rw (le-ltb (suc k) (width x + n) (omega arith)) (risen-two r (width x + n) xs k m e w))
      b

pub cut-end : (g : Graph) (suffix : List ℕ) (m : ℕ) → (t : List ℕ) × (vertex_sequence g m ≡ t ++ suffix) → vertex_sequence g m
    ≡ without_suffix g (length suffix) m ++ suffix
unfolding without_suffix
cut-end g suffix m (t, e) =
    let n : length t ≡ length (vertex_sequence g m) - length suffix = omega (arith, ap length e, length-append t suffix) in
    let f : take (length (vertex_sequence g m) - length suffix) (vertex_sequence g m) ≡ t =
    ap (take (length (vertex_sequence g m) - length suffix)) e ∙ take_at t suffix (length (vertex_sequence g m) - length suffix) n in
    e ∙ ap (λ x. x ++ suffix) (sym f)

module _ (g : Graph) (bounded : Bounded g) (r : ℕ → ℕ) (ranks : Ranks g r) (bottom : ℕ) (suffix : List ℕ)
    (only_out : (m w : ℕ) → Memᴰ m (incoming_nodes g bottom) → HasEdge g m w → w ≡ bottom)
    (cuts : (m : ℕ) → Memᴰ m (incoming_nodes g bottom) → vertex_sequence g m ≡ without_suffix g (length suffix) m ++ suffix) where
  abbrev pub prevs : List ℕ
  prevs = incoming_nodes g bottom

  abbrev pub c : Change
  c = record { verts = split_vertices g suffix prevs; edges = split_edges g bottom suffix (node_count g) prevs; gone = prevs }

  abbrev pub G : Graph
  G = with_additions c g

  abbrev pub B : ℕ → ℕ → Type 0
  B k m = Block g bottom suffix (node_count g) prevs k m

  abbrev pub en : ℕ → ℕ → ℕ
  en k m = entry g bottom suffix k m

  pub old-edge : (u v : ℕ) → HasEdge g u v → (u < node_count g) × (v < node_count g)
  old-edge = edge-inside g bounded

  pub prev-edge : (m : ℕ) → Memᴰ m prevs → HasEdge g m bottom
  prev-edge m k = of-mem-ins g m bottom k

  pub prev-old : (m : ℕ) → Memᴰ m prevs → m < node_count g
  prev-old m k = (old-edge m bottom (prev-edge m k)).0

  pub bottom-stays : Memᴰ bottom prevs → ⊥
  bottom-stays k = omega (arith, ranks bottom bottom (prev-edge bottom k))

  pub size_g : node_count G ≡ node_count g + widths g bottom suffix prevs
  size_g = order-grown g c ∙ ap (λ z. node_count g + z) (length-verts g bottom suffix prevs)

  pub range : (k m : ℕ) → B k m → (node_count g ≤ k) × (k + width g bottom suffix m ≤ node_count G) × (0 < width g bottom suffix m)
  range k m b =
      let h = block-range g bottom suffix (node_count g) prevs k m b in
      (h.0, omega (arith, size_g), width-cases g bottom suffix m (λ _ w. omega arith) (λ _ w. omega arith))

  pub mem-B : (k m : ℕ) → B k m → Memᴰ m prevs
  mem-B = block-mem g bottom suffix (node_count g) prevs

  pub entry-range : (k m : ℕ) → B k m → (node_count g ≤ en k m) × (en k m < node_count G)
  entry-range k m b =
      let h = range k m b in
      width-cases g bottom suffix m
      (λ e w. omega (arith, entry-one g bottom suffix k m e))
      (λ e w. omega (arith, entry-two g bottom suffix k m e))

  pub links : {X : Type 0} (u v : ℕ) → Linked c.edges u v
      → ((k m : ℕ) → B k m → non_empty (remaining g bottom suffix m) ≡ true → u ≡ suc k → v ≡ k → X)
      → ((k m : ℕ) → B k m → u ≡ k → v ≡ bottom → X)
      → ((k m : ℕ) → B k m → HasEdge g u m → v ≡ en k m → X) → X
  links u v l f₁ f₂ f₃ =
      let a = of-all g bottom suffix (node_count g) prevs u v l in
      of-block g bottom suffix a.0 a.1 u v a.3 (f₁ a.0 a.1 a.2) (f₂ a.0 a.1 a.2) (f₃ a.0 a.1 a.2)

  pub put : (k m u v : ℕ) → B k m → Linked (block_edges g bottom suffix k m) u v → Linked c.edges u v
  put k m u v b l = in_all g bottom suffix (node_count g) prevs k m u v b l

  pub two-wide : (m : ℕ) → non_empty (remaining g bottom suffix m) ≡ true → width g bottom suffix m ≡ 2
  unfolding non_empty
  two-wide m e = width-cases g bottom suffix m (λ i w. clash e (ap non_empty i)) (λ _ w. w)

  pub local : Local g c
  local = record {
    below = λ u v l. links u v l
        (λ k m b e p q. let h = range k m b in (omega (arith, two-wide m e), omega arith))
        (λ k m b p q. let h = range k m b in (omega arith, rw q (old-less g bounded c bottom (old-edge m bottom (prev-edge m (mem-B k m b))).1)))
        (λ k m b h q. (old-less g bounded c u (old-edge u m h).0, rw q (entry-range k m b).1));
    stays = λ u v l. links u v l
        (λ k m b e p q. let h = range k m b in (λ z. omega (arith, prev-old u z), λ z. omega (arith, prev-old v z)))
        (λ k m b p q. let h = range k m b in (λ z. omega (arith, prev-old u z), λ z. bottom-stays (rw q at z)))
        (λ k m b h q. (λ z. bottom-stays (rw (only_out u m z h) at (mem-B k m b)), λ z. let i = entry-range k m b in omega (arith, prev-old v z)));
    fresh = λ u v l a d. links u v l
        (λ k m b e p q. let h = range k m b in omega arith)
        (λ k m b p q. let h = range k m b in omega arith)
        (λ k m b h q. let i = entry-range k m b in omega arith);
    old = prev-old;
    in₁ = λ x v h z n. let i = only_out x v z h in let b = block_of g bottom suffix (node_count g) prevs x z in
        (b.0, rw i (put b.0 x b.0 bottom b.1 (in-block₂ g bottom suffix b.0 x)));
    in₂ = λ y v l a. links y v l
        (λ k m b e p q. let h = range k m b in absurd (omega arith))
        (λ k m b p q. (m, rw q (prev-edge m (mem-B k m b))))
        (λ k m b h q. let i = entry-range k m b in absurd (omega arith));
    out₁ = λ u x h z n. let b = block_of g bottom suffix (node_count g) prevs x z in
        (en b.0 x, put b.0 x u (en b.0 x) b.1 (in-block₃ g bottom suffix b.0 x u h));
    out₂ = λ u y l a. links u y l
        (λ k m b e p q. let h = range k m b in absurd (omega arith))
        (λ k m b p q. let h = range k m b in absurd (omega arith))
        (λ k m b h q. (m, h));
  }

  abbrev pub No : Net
  No = net_of g

  abbrev pub U : Net
  U = part_of (keeps prevs) G

  abbrev pub shr : ℕ → Bool
  shr = common g bounded c

  pub link' : (u v : ℕ) → Linked c.edges u v → U.Ed u v
  link' = link-U g bounded c local

  pub shr-old : (v : ℕ) → shr v ≡ true → v < node_count g
  shr-old v t = (common-is g bounded c v t).1

  -- the sequences of a block
  pub seq-k : (k m : ℕ) → B k m → vertex_sequence G k ≡ suffix
  unfolding suffix_and_prefix width
  seq-k k m b =
      let h = range k m b in
      let e : k ≡ node_count g + (k - node_count g) = omega arith in
      ap (vertex_sequence G) e ∙ (seq-grown-new g c (k - node_count g)
      ∙ (vert-at g bottom suffix (node_count g) prevs k m 0 b h.2 (k - node_count g) (omega arith) ∙ go (remaining g bottom suffix m)))
    where
      go : (x : List ℕ) → get_or (suffix_and_prefix suffix x) 0 [] ≡ suffix
      go [] = refl
      go (x ∷ xs) = refl

  pub seq-suc : (k m : ℕ) → B k m → non_empty (remaining g bottom suffix m) ≡ true → vertex_sequence G (suc k) ≡ remaining g bottom suffix m
  unfolding suffix_and_prefix non_empty
  seq-suc k m b n =
      let h = range k m b in
      let e : suc k ≡ node_count g + (suc k - node_count g) = omega arith in
      ap (vertex_sequence G) e ∙ (seq-grown-new g c (suc k - node_count g)
      ∙ (vert-at g bottom suffix (node_count g) prevs k m 1 b (omega (arith, two-wide m n)) (suc k - node_count g) (omega arith)
      ∙ go (remaining g bottom suffix m) n))
    where
      go : (x : List ℕ) → non_empty x ≡ true → get_or (suffix_and_prefix suffix x) 1 [] ≡ x
      go [] n = clash n refl
      go (x ∷ xs) n = refl

  pub bottom-old : (m : ℕ) → Memᴰ m prevs → bottom < node_count g
  bottom-old m k = (old-edge m bottom (prev-edge m k)).1

  -- through a block to the bottom
  pub inside : (p : Pt) (k m : ℕ) → B k m → Go U p (at (en k m)) → Steps U p (at bottom) (vertex_sequence g m ++ vertex_sequence g bottom)
  inside p k m b h =
      let z = mem-B k m b in
      let sb = seq-grown-old g c bottom (bottom-old m z) in
      let out : Steps U (at k) (at bottom) (vertex_sequence g bottom) =
      cast sb (single {p = at k} {q = at bottom} (link' k bottom (put k m k bottom b (in-block₂ g bottom suffix k m)))) in
      width-cases g bottom suffix m
      (λ e w. let i = entry-one g bottom suffix k m e in
      cast (ap (λ x. x ++ vertex_sequence g bottom) (seq-k k m b ∙ (sym (ap (λ x. x ++ suffix) e) ∙ sym (cuts m z)))) (step {q = at k} (rw i at h) out))
      (λ e w. let i = entry-two g bottom suffix k m e in
      cast (ap (λ x. x ++ (vertex_sequence G k ++ vertex_sequence g bottom)) (seq-suc k m b e)
      ∙ (ap (λ x. remaining g bottom suffix m ++ (x ++ vertex_sequence g bottom)) (seq-k k m b)
      ∙ (sym (append_assoc (remaining g bottom suffix m) suffix (vertex_sequence g bottom))
      ∙ ap (λ x. x ++ vertex_sequence g bottom) (sym (cuts m z)))))
      (step {q = at (suc k)} (rw i at h) (step {q = at k} (link' (suc k) k (put k m (suc k) k b (in-block₁ g bottom suffix k m e))) out)))

  -- a number is in one block only
  pub uniq : (k m k' m' y : ℕ) → B k m → B k' m' → k ≤ y → y < k + width g bottom suffix m → k' ≤ y → y < k' + width g bottom suffix m' → (k ≡ k') × (m ≡ m')
  uniq k m k' m' y b b' h₁ h₂ h₃ h₄ = ⊎_elim (λ e. e) (λ e.
      absurd (⊎_elim (λ (i : k + width g bottom suffix m ≤ k'). omega arith) (λ (i : k' + width g bottom suffix m' ≤ k). omega arith) e))
      (block_apart g bottom suffix (node_count g) prevs k m k' m' b b')

  pub entry_in : (k m : ℕ) → (k ≤ en k m) × (en k m < k + width g bottom suffix m)
  entry_in k m = width-cases g bottom suffix m (λ e w. omega (arith, entry-one g bottom suffix k m e)) (λ e w. omega (arith, entry-two g bottom suffix k m e))

  -- what leads to the entry of a block
  pub to-entry : {X : Type 0} (k m u : ℕ) → B k m → U.Ed u (en k m) → (HasEdge g u m → X) → X
  to-entry k m u b h f =
      let i = entry-range k m b in
      let j = entry_in k m in
      links u (en k m) (of-U-new g bounded c local u (en k m) h (inr i.0))
      (λ k' m' b' e p q. let d = uniq k m k' m' (en k m) b b' j.0 j.1 (omega arith) (omega (arith, two-wide m' e)) in
      absurd (omega (arith, d.0, entry-two g bottom suffix k m (rw (← d.1) at e))))
      (λ k' m' b' p q. absurd (omega (arith, bottom-old m (mem-B k m b))))
      (λ k' m' b' l q. let j' = entry_in k' m' in let d = uniq k m k' m' (en k m) b b' j.0 j.1 (omega arith) (omega arith) in f (rw (← d.1) at l))

  -- what the suffix vertex and the prefix vertex of a block lead to
  pub from-k : {X : Type 0} (k m v : ℕ) → B k m → U.Ed k v → (v ≡ bottom → X) → X
  from-k k m v b h f =
      let i = range k m b in
      links k v (of-U-new g bounded c local k v h (inl i.0))
      (λ k' m' b' e p q. let d = uniq k m k' m' k b b' (omega arith) (omega arith) (omega arith) (omega (arith, two-wide m' e)) in absurd (omega (arith, d.0)))
      (λ k' m' b' p q. f q)
      (λ k' m' b' l q. absurd (omega (arith, old-edge k m' l)))

  pub from_suc : {X : Type 0} (k m v : ℕ) → B k m → non_empty (remaining g bottom suffix m) ≡ true → U.Ed (suc k) v → (v ≡ k → X) → X
  from_suc k m v b n h f =
      let i = range k m b in
      links (suc k) v (of-U-new g bounded c local (suc k) v h (inl (omega arith)))
      (λ k' m' b' e p q. f (omega arith))
      (λ k' m' b' p q. let w = range k' m' b' in let d = uniq k m k' m' (suc k) b b' (omega arith) (omega (arith, two-wide m n))
      (omega arith) (omega arith) in absurd (omega (arith, d.0)))
      (λ k' m' b' l q. absurd (omega (arith, old-edge (suc k) m' l)))

  pub bottom-shr : (m : ℕ) → Memᴰ m prevs → shr bottom ≡ true
  bottom-shr m k = is-common g bounded c bottom (keeps-other prevs bottom bottom-stays) (bottom-old m k)

  -- the tours
  pub tour-prev : (x : ℕ) → Memᴰ x prevs → {q : Pt} {s : List ℕ} → Tour No shr (at x) q s → (q ≡ at bottom) × (s ≡ vertex_sequence g bottom)
  tour-prev x z (hit {q = start} h k) = absurd h
  tour-prev x z (hit {q = at v} h k) = let e = only_out x v z h in (ap at e, ap (vertex_sequence g) e)
  tour-prev x z (hit {q = stop} h k) = absurd (h.1 bottom (prev-edge x z))
  tour-prev x z (pass {q = start} h k w) = absurd h
  tour-prev x z (pass {q = at v} h k w) = let e = only_out x v z h in clash (bottom-shr x z) (rw e at k)
  tour-prev x z (pass {q = stop} h k w) = absurd (true≢false k)

  pub tour-k : (k m : ℕ) → B k m → {q : Pt} {s : List ℕ} → Tour U shr (at k) q s → (q ≡ at bottom) × (s ≡ vertex_sequence g bottom)
  tour-k k m b (hit {q = start} h j) = absurd h
  tour-k k m b (hit {q = at v} h j) = from-k k m v b h λ e. (ap at e, ap (vertex_sequence G) e ∙ seq-grown-old g c bottom (bottom-old m (mem-B k m b)))
  tour-k k m b (hit {q = stop} h j) = absurd (h.1 bottom (link' k bottom (put k m k bottom b (in-block₂ g bottom suffix k m))))
  tour-k k m b (pass {q = start} h j w) = absurd h
  tour-k k m b (pass {q = at v} h j w) = from-k k m v b h λ e. clash (bottom-shr m (mem-B k m b)) (rw e at j)
  tour-k k m b (pass {q = stop} h j w) = absurd (true≢false j)

  pub tour-suc : (k m : ℕ) → B k m → non_empty (remaining g bottom suffix m) ≡ true → {q : Pt} {s : List ℕ} → Tour U shr (at (suc k)) q s
      → (q ≡ at bottom) × (s ≡ suffix ++ vertex_sequence g bottom)
  tour-suc k m b n (hit {q = start} h j) = absurd h
  tour-suc k m b n (hit {q = at v} h j) = from_suc k m v b n h λ e. absurd (let i = range k m b in omega (arith, shr-old v j))
  tour-suc k m b n (hit {q = stop} h j) = absurd (h.1 k (link' (suc k) k (put k m (suc k) k b (in-block₁ g bottom suffix k m n))))
  tour-suc k m b n (pass {q = start} h j w) = absurd h
  tour-suc k m b n (pass {q = at v} {s = s} h j w) = from_suc k m v b n h λ e. let d = tour-k k m b (rw e at w) in
      (d.0, ap (λ x. x ++ s) (ap (vertex_sequence G) e ∙ seq-k k m b) ∙ ap (λ x. suffix ++ x) d.1)
  tour-suc k m b n (pass {q = stop} h j w) = absurd (true≢false j)

  pub tour-entry : (k m : ℕ) → B k m → {q : Pt} {s : List ℕ} → Tour U shr (at (en k m)) q s → (q ≡ at bottom)
      × (vertex_sequence G (en k m) ++ s ≡ vertex_sequence g m ++ vertex_sequence g bottom)
  tour-entry k m b {q} {s} w = width-cases g bottom suffix m
      (λ e _. let i = entry-one g bottom suffix k m e in let d = tour-k k m b (rw i at w) in (
        d.0,
        ap (λ x. vertex_sequence G x ++ s) i ∙ (ap (λ x. x ++ s) (seq-k k m b
            ∙ (sym (ap (λ x. x ++ suffix) e) ∙ sym (cuts m (mem-B k m b)))) ∙ ap (λ x. vertex_sequence g m ++ x) d.1),
      ))
      (λ e _. let i = entry-two g bottom suffix k m e in let d = tour-suc k m b e (rw i at w) in (
        d.0,
        ap (λ x. vertex_sequence G x ++ s) i ∙ (ap (λ x. x ++ s) (seq-suc k m b e)
            ∙ (ap (λ x. remaining g bottom suffix m ++ x) d.1
            ∙ (sym (append_assoc (remaining g bottom suffix m) suffix (vertex_sequence g bottom))
            ∙ ap (λ x. x ++ vertex_sequence g bottom) (sym (cuts m (mem-B k m b)))))),
      ))

  pub go-in : (p : Pt) (k m : ℕ) → B k m → kept shr p ≡ true → Go No p (at m) → Go U p (at (en k m))
  go-in start k m b t h = (
    (
      (entry-range k m b).1,
      keeps-other prevs (en k m) (λ z. let i = entry-range k m b in
          omega (arith, prev-old (en k m) z)),
    ),
    λ u l. to-entry k m u b l (h.1 u),
  )
  go-in (at u) k m b t h = link' u (en k m) (put k m u (en k m) b (in-block₃ g bottom suffix k m u h))
  go-in stop k m b t h = absurd h

  pub forth : Forth g bounded c local
  forth p q s x t h z w =
      let b = block_of g bottom suffix (node_count g) prevs x z in
      let d = tour-prev x z w in
      rw (d.0, d.1) (inside p b.0 x b.1 (go-in p b.0 x b.1 t h))

  pub source_in : {X : Type 0} (y k m : ℕ) → B k m → k ≤ y → y < k + width g bottom suffix m → Go U start (at y) → (y ≡ en k m → Go No start (at m) → X) → X
  source_in y k m b a d h f =
      let go : y ≡ en k m → Go No start (at m) = λ e. (
        prev-old m (mem-B k m b),
        λ u l.
            h.1 u (rw e (link' u (en k m) (put k m u (en k m) b (in-block₃ g bottom suffix k m u l)))),
      ) in
      width-cases g bottom suffix m
      (λ e w. let i : y ≡ en k m = omega (arith, entry-one g bottom suffix k m e) in f i (go i))
      (λ e w. by_order y k
      (λ j. let i : y ≡ k = omega arith in absurd (h.1 (suc k) (rw i (link' (suc k) k (put k m (suc k) k b (in-block₁ g bottom suffix k m e))))))
      (λ j. let i : y ≡ en k m = omega (arith, entry-two g bottom suffix k m e) in f i (go i)))

  -- a new vertex that is entered from a common vertex or from the start is the entry of a block
  pub entered : {X : Type 0} (p : Pt) (y : ℕ) → kept shr p ≡ true → node_count g ≤ y → Go U p (at y) → ((k m : ℕ) → B k m → y ≡ en k m → Go No p (at m) → X) → X
  entered start y t n h f =
      let a = block_at g bottom suffix (node_count g) prevs y n (omega (arith, size_g, h.0.0)) in
      source_in y a.0 a.1 a.2 a.3 a.4 h (f a.0 a.1 a.2)
  entered (at u) y t n h f =
      links u y (of-U-new g bounded c local u y h (inr n))
      (λ k m b e p q. let i = range k m b in absurd (omega (arith, shr-old u t)))
      (λ k m b p q. let i = range k m b in absurd (omega (arith, shr-old u t)))
      (λ k m b l q. f k m b q l)
  entered stop y t n h f = absurd h

  pub back : Back g bounded c local
  back p q s y t h n w = entered p y t n h λ k m b e l.
      let d = tour-entry k m b (rw e at w) in
      rw (e, d.1, d.0) (step {q = at m} l (single {p = at m} {q = at bottom} (prev-edge m (mem-B k m b))))

  -- ranks
  pub rank_g : ℕ → ℕ
  rank_g v = cond (ltb v (node_count g)) (2 * r v) (risen g bottom suffix r (node_count g) prevs v)

  pub rank-old : (v : ℕ) → v < node_count g → rank_g v ≡ 2 * r v
  unfolding rank_g
  rank-old v h = rw (lt-ltb v (node_count g) h)

  pub rank-k : (k m : ℕ) → B k m → rank_g k ≡ 2 * r m + 1
  unfolding rank_g
  rank-k k m b = rw (le-ltb k (node_count g) (range k m b).0) (risen-one g bottom suffix r (node_count g) prevs k m b)

  pub rank-suc : (k m : ℕ) → B k m → non_empty (remaining g bottom suffix m) ≡ true → rank_g (suc k) ≡ 2 * r m
  unfolding rank_g
  rank-suc k m b e = let h = range k m b in rw (le-ltb (suc k) (node_count g) (omega arith))
      (risen-two g bottom suffix r (node_count g) prevs k m b (two-wide m e))

  pub rank-entry : (k m : ℕ) → B k m → 2 * r m ≤ rank_g (en k m)
  rank-entry k m b = width-cases g bottom suffix m
      (λ e w. omega (arith, ap rank_g (entry-one g bottom suffix k m e), rank-k k m b))
      (λ e w. omega (arith, ap rank_g (entry-two g bottom suffix k m e), rank-suc k m b e))

  pub ranks_g : Ranks G rank_g
  ranks_g u v h = of-grown g bounded c u v h
      (λ l. let b = old-edge u v l in omega (arith, rank-old u b.0, rank-old v b.1, ranks u v l))
      (λ l. links u v l
      (λ k m b e p q. omega (arith, ap rank_g p, ap rank_g q, rank-suc k m b e, rank-k k m b))
      (λ k m b p q. let z = prev-edge m (mem-B k m b) in omega (
        arith,
        ap rank_g p,
        ap rank_g q,
        rank-k k m b,
        rank-old bottom (old-edge m bottom z).1,
        ranks m bottom z,
      ))
      (λ k m b j q. omega (arith, ap rank_g q, rank-entry k m b, rank-old u (old-edge u m j).0, ranks u m j)))

  pub split-keeps : Keeps g (apply_change g c)
  split-keeps =
      let x = ranks-change g bounded c local rank_g ranks_g in
      record {
        sound = record { bounded = bounded-change g bounded c local; rank = x.0; ranks = x.1 };
        spells = λ s.
            spells-change g bounded c local forth back;
      }

-- a split
pub split-keeps' : (g g' : Graph) (bottom : ℕ) → Sound g → try_split_common_suffix g bottom ≡ some g' → Keeps g g'
unfolding try_split_common_suffix splits_suffix split_suffix split_change is_split
split-keeps' g g' bottom sound did =
    let prevs = incoming_nodes g bottom in
    let suffix = common_suffix (map (vertex_sequence g) prevs) in
    let h = given-some _ _ g' did in
    let a = and_split (ltb 1 (length prevs)) _ h.0 in
    let d = and_split (all_of (λ p. not (eqb p bottom) && (eqb (out_degree g p) 1 && not (elem_of p (outgoing_nodes g bottom)))) prevs) _ a.1 in
    rw (← h.1) (split-keeps g sound.bounded sound.rank sound.ranks bottom suffix
    (λ m w k l.
    let x = and_split (not (eqb m bottom)) _ (all_of-mem (λ p. not (eqb p bottom)
    && (eqb (out_degree g p) 1 && not (elem_of p (outgoing_nodes g bottom)))) prevs d.0 k) in
    let y = and_split (eqb (out_degree g m) 1) _ x.1 in
    only_out_lem g m w bottom (eqb-true _ _ y.0) l (of-mem-ins g m bottom k))
    (λ m k. cut-end g suffix m (shared_suffix-each (map (vertex_sequence g) prevs) (Memᴰ.map (vertex_sequence g) k))))
