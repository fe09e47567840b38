-- Joining one chain changes nothing for the others.
-- Assumes nothing.
use Prim.Native.Nat.{ℕ}
use native.Mathlib.Omega.{arith}
use mathlib.Core.Path.{◌≡◌, refl, sym, ap, ◌∙◌}
use mathlib.Core.Logic.{⊎_elim}
use mathlib.Core.Bool.{Bool, true, false, ◌&&◌, ◌||◌, not, beq}
use mathlib.Core.List.Memᴰ
use mathlib.Core.List.{List, [], ◌∷◌, map, Memᴰ}
use lib.Dec.{eqb, ltb}
use lib.ListN.{length, length-map}
use borrow.Author.Tests.{eqb-true, eqb-false, eq-eqb}
use Rattle.defs.specs.Lists.{head_or, rank}
use Rattle.defs.specs.SeqGraph.{Edge, Graph, outgoing_nodes, incoming_nodes, edges_from, edges_into, out_degree, in_degree, is_reference_node}
use Rattle.defs.specs.SeqGraph.{keeps, remove_vertices_by_id, compact_vertices, remap_edge}
use Rattle.defs.specs.Zip.{is_linear_chain_start, chain_goes_on, last_of, move_from, merge_linear_chain}
use Rattle.defs.specs.Strings.{HasEdge}
use Rattle.laws.proofs.Walks.{by_test}
use Rattle.laws.proofs.ListLaws.{clash, and_split, and-true, rank-inj}
use Rattle.laws.proofs.Edges.{keeps-not, keeps-other, of-edges_into}
use Rattle.laws.proofs.Sound.{Sound}
use Rattle.laws.proofs.ZipLaws as Z
use Rattle.laws.proofs.ZipLaws.{Chained}
use Rattle.all_chains.proofs.Closing.{same_test, keep_if-through, any_of-through}
use Rattle.all_chains.proofs.Traces.{next_in_chain, WholeChain, ChainStep, first_out, step_of_lem, step-no-start}

-- the tests of starts and of steps, by what they look at
start-same : (a a' b b' c c' : ℕ) → a ≡ a' → b ≡ b' → (b' ≡ 1 → c ≡ c') → (eqb a 1 && (not (eqb b 1) || ltb 1 c)) ≡ (eqb a' 1 && (not (eqb b' 1) || ltb 1 c'))
start-same a a' b b' c c' p q r = by_test (eqb b' 1)
    (λ u. λ i. eqb (p i) 1 && (not (eqb (q i) 1) || ltb 1 (r (eqb-true _ _ u) i)))
    (λ u. rw (p, q, u))

goes_same : (a a' b b' : Bool) (c c' : Bool) → a ≡ a' → (a' ≡ true → b ≡ b') → (a' ≡ true → b' ≡ true → c ≡ c')
    → (a && (b && c)) ≡ (a' && (b' && c'))
goes_same a a' b b' c c' p q r = by_test a'
    (λ u. by_test b'
    (λ v. rw (p, u, q u, v) (r u v))
    (λ v. rw (p, u, q u, v)))
    (λ u. rw (p, u))

ref-same : (both r x y x' y' : Bool) → (both && x) ≡ x' → (both && y) ≡ y' → (both && (r && (x || y))) ≡ (r && (x' || y'))
ref-same true r x y x' y' p q = rw (p, q)
ref-same false true x y x' y' p q = rw (← p, ← q)
ref-same false false x y x' y' p q = refl

module _ (g : Graph) (h : Sound g) (s y : ℕ) (ys : List ℕ) (chained : Chained g s (y ∷ ys)) where
  abbrev p : ℕ → Bool
  p = keeps (y ∷ ys)

  abbrev mv : Edge → Edge
  mv = move_from (last_of s (y ∷ ys)) (s ∷ y ∷ ys) s

  abbrev both : Edge → Bool
  both e = keeps (y ∷ ys) e.from && keeps (y ∷ ys) e.to

  -- the graph with this chain joined, and the new numbers
  abbrev pub after : Graph
  after = merge_linear_chain g s (y ∷ ys)

  abbrev pub new : ℕ → ℕ
  new = rank (keeps (y ∷ ys))

  -- not of the chain
  abbrev pub Out : ℕ → Type 0
  Out v = Memᴰ v (s ∷ y ∷ ys) → ⊥

  pub kept_out : (x : ℕ) → Out x → keeps (y ∷ ys) x ≡ true
  kept_out x o = keeps-other (y ∷ ys) x (λ m. o (Memᴰ.tail m))

  pub s-kept : keeps (y ∷ ys) s ≡ true
  s-kept = Z.s-keep g h.bounded h.rank h.ranks s y ys chained

  pub moved-last : (e : Edge) → Memᴰ e g.edges → e.from ≡ last_of s (y ∷ ys) → (mv e).from ≡ s
  moved-last e m i = Z.src-moved g h.bounded h.rank h.ranks s y ys chained e m i

  pub moved_other : (e : Edge) → (e.from ≡ last_of s (y ∷ ys) → ⊥) → (mv e).from ≡ e.from
  moved_other e n = Z.src-kept g h.bounded h.rank h.ranks s y ys chained e n

  pub last-in : Memᴰ (last_of s (y ∷ ys)) (s ∷ y ∷ ys)
  last-in = Z.last-in g h.bounded h.rank h.ranks s (y ∷ ys)

  in-in : (u w : ℕ) → Memᴰ w (y ∷ ys) → HasEdge g u w → Memᴰ u (s ∷ y ∷ ys)
  in-in u w m l = Z.in-in g h.bounded h.rank h.ranks s (y ∷ ys) chained u w m l

  -- an edge out of a vertex of the chain leaves the last one, or stays in the chain
  out-in : {X : Type 0} (u w : ℕ) → Memᴰ u (s ∷ y ∷ ys) → HasEdge g u w → (u ≡ last_of s (y ∷ ys) → X) → (Memᴰ w (y ∷ ys) → X) → X
  out-in u w m l f k = ⊎_elim f k (Z.out-in g h.bounded h.rank h.ranks s (y ∷ ys) chained u w m l)

  -- an edge out of x
  out_at : (x : ℕ) → Out x → (e : Edge) → Memᴰ e g.edges → (both (mv e) && eqb (rank p (mv e).from) (rank p x)) ≡ eqb e.from x
  unfolding move_from
  out_at x o e m = same_test (both (mv e) && eqb (rank p (mv e).from) (rank p x)) (eqb e.from x) forth back
    where
      forth : (both (mv e) && eqb (rank p (mv e).from) (rank p x)) ≡ true → eqb e.from x ≡ true
      forth t =
          let a = and_split (both (mv e)) _ t in
          let b = and_split (p (mv e).from) _ a.0 in
          let i = rank-inj p (mv e).from x b.0 (kept_out x o) (eqb-true _ _ a.1) in
          by_test (eqb e.from (last_of s (y ∷ ys)))
          (λ u. absurd (o (Memᴰ.head (sym i ∙ moved-last e m (eqb-true _ _ u)))))
          (λ u. eq-eqb _ _ (sym (moved_other e (eqb-false _ _ u)) ∙ i))

      back : eqb e.from x ≡ true → (both (mv e) && eqb (rank p (mv e).from) (rank p x)) ≡ true
      back t =
          let i : e.from ≡ x = eqb-true _ _ t in
          let k : (mv e).from ≡ x = moved_other e (λ l. o (rw (sym i ∙ l) last-in)) ∙ i in
          let d : p e.to ≡ true = keeps-other (y ∷ ys) e.to (λ n. o (rw i at (in-in e.from e.to n (e, m, refl, refl)))) in
          and-true (both (mv e)) _ (and-true (p (mv e).from) _ (ap p k ∙ kept_out x o) d) (eq-eqb _ _ (ap (rank p) k))

  -- an edge out of the first vertex was one out of the last
  out_first : (e : Edge) → Memᴰ e g.edges → (both (mv e) && eqb (rank p (mv e).from) (rank p s)) ≡ eqb e.from (last_of s (y ∷ ys))
  unfolding move_from
  out_first e m = same_test (both (mv e) && eqb (rank p (mv e).from) (rank p s)) (eqb e.from (last_of s (y ∷ ys))) forth back
    where
      forth : (both (mv e) && eqb (rank p (mv e).from) (rank p s)) ≡ true → eqb e.from (last_of s (y ∷ ys)) ≡ true
      forth t =
          let a = and_split (both (mv e)) _ t in
          let b = and_split (p (mv e).from) _ a.0 in
          let i = rank-inj p (mv e).from s b.0 s-kept (eqb-true _ _ a.1) in
          by_test (eqb e.from (last_of s (y ∷ ys)))
          (λ u. u)
          (λ u. absurd (keeps-not (y ∷ ys) e.to b.1 (Memᴰ.head (chained.1 e.to (e, m, sym (moved_other e (eqb-false _ _ u)) ∙ i, refl)))))

      back : eqb e.from (last_of s (y ∷ ys)) ≡ true → (both (mv e) && eqb (rank p (mv e).from) (rank p s)) ≡ true
      back t =
          let i : e.from ≡ last_of s (y ∷ ys) = eqb-true _ _ t in
          let k : (mv e).from ≡ s = moved-last e m i in
          let d : p e.to ≡ true = keeps-other (y ∷ ys) e.to (λ n.
          Z.out-last g h.bounded h.rank h.ranks s y ys chained e.to (e, m, i, refl) (Memᴰ.tail n)) in
          and-true (both (mv e)) _ (and-true (p (mv e).from) _ (ap p k ∙ s-kept) d) (eq-eqb _ _ (ap (rank p) k))

  -- an edge into x
  in-at : (x : ℕ) → keeps (y ∷ ys) x ≡ true → (e : Edge) → Memᴰ e g.edges → (both (mv e) && eqb (rank p (mv e).to) (rank p x)) ≡ eqb e.to x
  unfolding move_from
  in-at x k e m = same_test (both (mv e) && eqb (rank p (mv e).to) (rank p x)) (eqb e.to x) forth back
    where
      forth : (both (mv e) && eqb (rank p (mv e).to) (rank p x)) ≡ true → eqb e.to x ≡ true
      forth t =
          let a = and_split (both (mv e)) _ t in
          let b = and_split (p (mv e).from) _ a.0 in
          eq-eqb _ _ (rank-inj p e.to x b.1 k (eqb-true _ _ a.1))

      kept_from : e.to ≡ x → p (mv e).from ≡ true
      kept_from i = by_test (eqb e.from (last_of s (y ∷ ys)))
          (λ u. ap p (moved-last e m (eqb-true _ _ u)) ∙ s-kept)
          (λ u. ap p (moved_other e (eqb-false _ _ u)) ∙ keeps-other (y ∷ ys) e.from
          (λ n. out-in e.from e.to (Memᴰ.tail n) (e, m, refl, refl) (eqb-false _ _ u) (λ q. keeps-not (y ∷ ys) x k (rw i at q))))

      back : eqb e.to x ≡ true → (both (mv e) && eqb (rank p (mv e).to) (rank p x)) ≡ true
      back t =
          let i : e.to ≡ x = eqb-true _ _ t in
          and-true (both (mv e)) _ (and-true (p (mv e).from) _ (kept_from i) (ap p i ∙ k)) (eq-eqb _ _ (ap (rank p) i))

  -- ---- what the joined graph has at a vertex

  abbrev changed : Edge → Edge
  changed e = remap_edge (keeps (y ∷ ys)) (move_from (last_of s (y ∷ ys)) (s ∷ y ∷ ys) s e)

  from-after : (x : ℕ) → Out x → edges_from after (new x) ≡ map changed (edges_from g x)
  unfolding edges_from merge_linear_chain remove_vertices_by_id compact_vertices remap_edge
  from-after x o = keep_if-through mv both (remap_edge p) (λ (e : Edge). eqb e.from (rank p x)) (λ (e : Edge). eqb e.from x) g.edges (out_at x o)

  first-after : edges_from after (new s) ≡ map changed (edges_from g (last_of s (y ∷ ys)))
  unfolding edges_from merge_linear_chain remove_vertices_by_id compact_vertices remap_edge
  first-after = keep_if-through mv both (remap_edge p) (λ (e : Edge). eqb e.from (rank p s)) (λ (e : Edge).
      eqb e.from (last_of s (y ∷ ys))) g.edges out_first

  into-after : (x : ℕ) → keeps (y ∷ ys) x ≡ true → edges_into after (new x) ≡ map changed (edges_into g x)
  unfolding edges_into merge_linear_chain remove_vertices_by_id compact_vertices remap_edge
  into-after x k = keep_if-through mv both (remap_edge p) (λ (e : Edge). eqb e.to (rank p x)) (λ (e : Edge). eqb e.to x) g.edges (in-at x k)

  pub outs-after : (x : ℕ) → Out x → out_degree after (new x) ≡ out_degree g x
  unfolding out_degree
  outs-after x o = ap length (from-after x o) ∙ length-map (edges_from g x) changed

  pub outs-first : out_degree after (new s) ≡ out_degree g (last_of s (y ∷ ys))
  unfolding out_degree
  outs-first = ap length first-after ∙ length-map (edges_from g (last_of s (y ∷ ys))) changed

  pub ins-after : (x : ℕ) → keeps (y ∷ ys) x ≡ true → in_degree after (new x) ≡ in_degree g x
  unfolding in_degree
  ins-after x k = ap length (into-after x k) ∙ length-map (edges_into g x) changed

  pub ref-after : (x : ℕ) → Out x → is_reference_node after (new x) ≡ is_reference_node g x
  unfolding is_reference_node merge_linear_chain remove_vertices_by_id compact_vertices remap_edge move_from
  ref-after x o =
      any_of-through mv both (remap_edge p) (λ (e : Edge). e.is_ref && (eqb e.from (rank p x) || eqb e.to (rank p x))) (λ (e : Edge).
      e.is_ref && (eqb e.from x || eqb e.to x)) g.edges
      (λ e m. ref-same (both (mv e)) e.is_ref (eqb (rank p (mv e).from) (rank p x)) (eqb (rank p e.to) (rank p x)) (eqb e.from x)
      (eqb e.to x) (out_at x o e m) (in-at x (kept_out x o) e m))

  head-to : (es : List Edge) → head_or 0 (map (λ (e : Edge). e.to) (map changed es)) ≡ rank p (head_or 0 (map (λ (e : Edge). e.to) es))
  unfolding head_or rank remap_edge move_from
  head-to [] = refl
  head-to (e ∷ es) = refl

  pub next-after : (x : ℕ) → Out x → next_in_chain after (new x) ≡ new (next_in_chain g x)
  unfolding outgoing_nodes
  next-after x o = ap (λ (l : List Edge). head_or 0 (map (λ (e : Edge). e.to) l)) (from-after x o) ∙ head-to (edges_from g x)

  -- the way out of where an edge to x comes from
  src-after : (e : Edge) → Memᴰ e g.edges → Out e.to → out_degree after (rank p (mv e).from) ≡ out_degree g e.from
  src-after e m o = by_test (eqb e.from (last_of s (y ∷ ys)))
      (λ u. let i = eqb-true _ _ u in rw (moved-last e m i, i) outs-first)
      (λ u. let n = eqb-false _ _ u in rw (moved_other e n)
      (outs-after e.from (λ q. out-in e.from e.to q (e, m, refl, refl) n (λ r. o (Memᴰ.tail r)))))

  head-from : (es : List Edge) → (inside : (e : Edge) → Memᴰ e es → Memᴰ e g.edges × Out e.to) → length es ≡ 1
      → out_degree after (head_or 0 (map (λ (e : Edge). e.from) (map changed es))) ≡ out_degree g (head_or 0 (map (λ (e : Edge). e.from) es))
  unfolding head_or remap_edge
  head-from [] k l = absurd (omega arith)
  head-from (e ∷ es) k l = let a = k e (Memᴰ.head refl) in src-after e a.0 a.1

  pred-after : (x : ℕ) → Out x → in_degree g x ≡ 1 → out_degree after (head_or 0 (incoming_nodes after (new x))) ≡ out_degree g (head_or 0 (incoming_nodes g x))
  unfolding incoming_nodes in_degree
  pred-after x o d =
      ap (λ (l : List Edge). out_degree after (head_or 0 (map (λ (e : Edge). e.from) l))) (into-after x (kept_out x o))
      ∙ head-from (edges_into g x) (λ e m. let a = of-edges_into g x e m in (a.0, λ q. o (rw a.1 at q))) d

  -- a chain starts where it did
  pub start-after : (x : ℕ) → Out x → is_linear_chain_start after (new x) ≡ is_linear_chain_start g x
  unfolding is_linear_chain_start
  start-after x o =
      start-same (out_degree after (new x)) (out_degree g x) (in_degree after (new x)) (in_degree g x)
      (out_degree after (head_or 0 (incoming_nodes after (new x)))) (out_degree g (head_or 0 (incoming_nodes g x)))
      (outs-after x o) (ins-after x (kept_out x o)) (pred-after x o)

  -- ---- traces outside the chain

  module _ (starts : is_linear_chain_start g s ≡ true) where
    -- a step from outside stays outside
    step-out : (x z : ℕ) → Out x → ChainStep g x z → Out z
    step-out x z o st m = ⊎_elim
        (λ (i : z ≡ s). clash starts (step-no-start g x s (rw i at st)))
        (λ n. o (in-in x z n st.edge))
        (Memᴰ.cases_cons m)

    eqb-new : (x z : ℕ) → keeps (y ∷ ys) x ≡ true → keeps (y ∷ ys) z ≡ true → eqb (new x) (new z) ≡ eqb x z
    eqb-new x z a b = same_test _ _ (λ t. eq-eqb _ _ (rank-inj p x z a b (eqb-true _ _ t))) (λ t. eq-eqb _ _ (ap (rank p) (eqb-true _ _ t)))

    goes_after : (x : ℕ) → Out x → chain_goes_on after (new x) (new (next_in_chain g x)) ≡ chain_goes_on g x (next_in_chain g x)
    unfolding chain_goes_on
    goes_after x o =
        let z = next_in_chain g x in
        let kept : out_degree g x ≡ 1 → keeps (y ∷ ys) z ≡ true = λ d. keeps-other (y ∷ ys) z (λ n. o (in-in x z n (first_out g x d))) in
        let step : out_degree g x ≡ 1 → in_degree g z ≡ 1 → Out z = λ d i. step-out x z o record { out = d; into = i; edge = first_out g x d } in
        goes_same (eqb (out_degree after (new x)) 1) (eqb (out_degree g x) 1) (eqb (in_degree after (new z)) 1) (eqb (in_degree g z) 1)
        (not (eqb (new x) (new z)) && beq (is_reference_node after (new x)) (is_reference_node after (new z))) (not (eqb x z)
        && beq (is_reference_node g x) (is_reference_node g z))
        (ap (λ d. eqb d 1) (outs-after x o))
        (λ t. ap (λ d. eqb d 1) (ins-after z (kept (eqb-true _ _ t))))
        (λ t u. let q = step (eqb-true _ _ t) (eqb-true _ _ u) in
        λ i. not (eqb-new x z (kept_out x o) (kept_out z q) i) && beq (ref-after x o i) (ref-after z q i))

    pub whole_out : (x : ℕ) → Out x → (zs : List ℕ) → WholeChain g x zs → (v : ℕ) → Memᴰ v (x ∷ zs) → Out v
    whole_out x o [] w v m = ⊎_elim (λ (i : v ≡ x). λ q. o (rw i at q)) (λ n. absurd (Memᴰ.not-nil n)) (Memᴰ.cases_cons m)
    whole_out x o (z ∷ zs) (e, t, w) v m = ⊎_elim (λ (i : v ≡ x). λ q. o (rw i at q)) (λ n.
        whole_out z (step-out x z o (step_of_lem g x z e t)) zs w v n) (Memᴰ.cases_cons m)

    pub whole-after : (x : ℕ) → Out x → (zs : List ℕ) → WholeChain g x zs → WholeChain after (new x) (map new zs)
    whole-after x o [] w = ap (chain_goes_on after (new x)) (next-after x o) ∙ (goes_after x o ∙ w)
    whole-after x o (z ∷ zs) (e, t, w) = (
      ap new e ∙ sym (next-after x o),
      ap (λ v. chain_goes_on after (new x) (new v)) e ∙ (goes_after x o ∙ (ap (chain_goes_on g x) (sym e) ∙ t)),
      whole-after z (step-out x z o (step_of_lem g x z e t)) zs w,
    )
