-- Comparing what is stored is comparing signatures. Assumes nothing.
use mathlib.Core.Path.{◌≡◌, refl, sym, ap, ◌∙◌}
use mathlib.Core.List.{List, [], ◌∷◌, ◌++◌, map, head-eq_of_cons-eq, tail-eq_of_cons-eq}
use Prim.Native.Nat.{ℕ, ◌+◌, ◌*◌}
use native.Mathlib.Omega.{arith}
use lib.ListN.{length, length-append}
use Rattle.defs.specs.Lists.{bit, concat, same_list}
use Rattle.defs.specs.SeqGraph.{Edge, Graph, node_count}
use Rattle.defs.specs.Simplify.{graph_topology_signature, sequence_bytes}
use Rattle.laws.proofs.Walks.{by_test}
use Rattle.laws.proofs.Capped.{edge_numbers}
use Rattle.laws.proofs.ListLaws.{clash, bit-small, same_list-eq, same_list-refl}
use Rattle.signature.specs.Signature.{stored_vertex, stored_edge, stored_signature}

-- the signature, with the numbers that f gives for an edge
abbrev signature_by : (Edge → List ℕ) → Graph → List ℕ
signature_by f g = node_count g ∷ length g.edges ∷ concat (map stored_vertex g.verts) ++ concat (map f g.edges)

-- f gives as many numbers for every edge, and by them those that f' gives can be told
record Tells (f f' : Edge → List ℕ) : Type 0 where
  long : (e e' : Edge) → length (f e) ≡ length (f e')
  told : (e e' : Edge) (xs ys : List ℕ) → f e ++ xs ≡ f e' ++ ys → (f' e ≡ f' e') × (xs ≡ ys)

numbers-tell : Tells edge_numbers stored_edge
numbers-tell = record {
  long = λ e e'. refl;
  told = λ e e' xs ys q.
      let a = tail-eq_of_cons-eq q in
      let b = tail-eq_of_cons-eq a in
      let c = tail-eq_of_cons-eq b in (
        (λ i. head-eq_of_cons-eq q i ∷ (2 * head-eq_of_cons-eq a i + head-eq_of_cons-eq c i) ∷ head-eq_of_cons-eq b i ∷ []),
        tail-eq_of_cons-eq c,
      );
}

stored-tell : Tells stored_edge edge_numbers
stored-tell = record {
  long = λ e e'. refl;
  told = λ e e' xs ys q.
      let a = tail-eq_of_cons-eq q in
      let b = tail-eq_of_cons-eq a in
      let packed : 2 * e.to + bit e.is_ref ≡ 2 * e'.to + bit e'.is_ref = head-eq_of_cons-eq a in
      let to : e.to ≡ e'.to = omega (arith, packed, bit-small e.is_ref, bit-small e'.is_ref) in
      let flag : bit e.is_ref ≡ bit e'.is_ref = omega (arith, packed, to) in
      ((λ i. head-eq_of_cons-eq q i ∷ to i ∷ head-eq_of_cons-eq b i ∷ flag i ∷ []), tail-eq_of_cons-eq b);
}

append-told : (xs xs' ys ys' : List ℕ) → length xs ≡ length xs' → xs ++ ys ≡ xs' ++ ys' → (xs ≡ xs') × (ys ≡ ys')
append-told [] [] ys ys' l q = (refl, q)
append-told [] (x ∷ xs) ys ys' l q = absurd (omega (arith, l))
append-told (x ∷ xs) [] ys ys' l q = absurd (omega (arith, l))
append-told (x ∷ xs) (x' ∷ xs') ys ys' l q =
    let r = append-told xs xs' ys ys' (omega (arith, l)) (tail-eq_of_cons-eq q) in
    ((λ i. head-eq_of_cons-eq q i ∷ r.0 i), r.1)

module _ {f f' : Edge → List ℕ} (T : Tells f f') where
  abbrev vertex_part : Graph → List ℕ
  vertex_part g = concat (map stored_vertex g.verts)

  abbrev edge_part : Graph → List ℕ
  edge_part g = concat (map f g.edges)

  edges-long : (es es' : List Edge) → length es ≡ length es' → length (concat (map f es)) ≡ length (concat (map f es'))
  unfolding concat
  edges-long [] [] l = refl
  edges-long [] (e ∷ es) l = absurd (omega (arith, l))
  edges-long (e ∷ es) [] l = absurd (omega (arith, l))
  edges-long (e ∷ es) (e' ∷ es') l =
      omega (arith, length-append (f e) (concat (map f es)), length-append (f e') (concat (map f es')), T.long e e', edges-long es es' (omega (arith, l)))

  edges-told : (es es' : List Edge) → length es ≡ length es' → concat (map f es) ≡ concat (map f es') → concat (map f' es) ≡ concat (map f' es')
  unfolding concat
  edges-told [] [] l q = refl
  edges-told [] (e ∷ es) l q = absurd (omega (arith, l))
  edges-told (e ∷ es) [] l q = absurd (omega (arith, l))
  edges-told (e ∷ es) (e' ∷ es') l q =
      let r = T.told e e' (concat (map f es)) (concat (map f es')) q in
      λ i. r.0 i ++ edges-told es es' (omega (arith, l)) r.1 i

  -- so the one signature tells the other
  signature-told : (g h : Graph) → signature_by f g ≡ signature_by f h → signature_by f' g ≡ signature_by f' h
  signature-told g h q = λ i. head-eq_of_cons-eq q i ∷ count i ∷ (parts.0 i ++ edges-told g.edges h.edges count parts.1 i)
    where
      count : length g.edges ≡ length h.edges
      count = head-eq_of_cons-eq (tail-eq_of_cons-eq q)

      rest : vertex_part g ++ edge_part g ≡ vertex_part h ++ edge_part h
      rest = tail-eq_of_cons-eq (tail-eq_of_cons-eq q)

      long : length (vertex_part g) ≡ length (vertex_part h)
      long = omega (arith, length-append (vertex_part g) (edge_part g), length-append (vertex_part h) (edge_part h), ap length rest, edges-long g.edges h.edges count)

      parts : (vertex_part g ≡ vertex_part h) × (edge_part g ≡ edge_part h)
      parts = append-told (vertex_part g) (vertex_part h) (edge_part g) (edge_part h) long rest

-- two tests agree where each list is the other's partner
same_alike : (a b c d : List ℕ) → (a ≡ b → c ≡ d) → (c ≡ d → a ≡ b) → same_list a b ≡ same_list c d
same_alike a b c d to from = by_test (same_list a b)
    (λ t. t ∙ sym (ap (same_list c) (sym (to (same_list-eq a b t))) ∙ same_list-refl c))
    (λ t. t ∙ sym (by_test (same_list c d)
    (λ s. clash (ap (same_list a) (sym (from (same_list-eq c d s))) ∙ same_list-refl a) t)
    (λ s. s)))

pub stored_same : (g h : Graph) → same_list (stored_signature g) (stored_signature h) ≡ same_list (graph_topology_signature g) (graph_topology_signature h)
unfolding graph_topology_signature
stored_same g h = same_alike (stored_signature g) (stored_signature h) (graph_topology_signature g) (graph_topology_signature h)
    (signature-told stored-tell g h)
    (signature-told numbers-tell g h)

-- nothing stored is no signature
pub none-stored : (g : Graph) → same_list [] (stored_signature g) ≡ same_list [] (graph_topology_signature g)
unfolding graph_topology_signature same_list
none-stored g = refl

-- how many numbers are stored
pub stored-long : (g : Graph) → length (stored_signature g) ≡ 2 + (node_count g + sequence_bytes g.verts) + 3 * length g.edges
unfolding node_count concat sequence_bytes
stored-long g =
    omega (arith, length-append (concat (map stored_vertex g.verts)) (concat (map stored_edge g.edges)), vertices g.verts, edges g.edges)
  where
    vertices : (vs : List (List ℕ)) → length (concat (map stored_vertex vs)) ≡ length vs + sequence_bytes vs
    vertices [] = refl
    vertices (v ∷ vs) = omega (arith, length-append (stored_vertex v) (concat (map stored_vertex vs)), vertices vs)

    edges : (es : List Edge) → length (concat (map stored_edge es)) ≡ 3 * length es
    edges [] = refl
    edges (e ∷ es) = omega (arith, length-append (stored_edge e) (concat (map stored_edge es)), edges es)
