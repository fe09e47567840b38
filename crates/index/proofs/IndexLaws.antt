-- The index over packed edges, and the definitions' edges at a vertex. Assumes nothing.
use mathlib.Core.Path.{◌≡◌, refl, sym, ap, ◌∙◌, subst}
use mathlib.Core.Bool.{Bool, true, false, cond}
use mathlib.Core.List.{List, [], ◌∷◌, ◌++◌, map, append_assoc, append-nil, map-map}
use Prim.Native.Nat.{ℕ, zero, suc, ◌+◌, ◌*◌, ◌-◌, ◌≤◌, ◌<◌}
use native.Mathlib.Nat.{add-zero}
use native.Mathlib.Omega.{arith}
use native.Mathlib.Decide.{ℕ_discrete}
use lib.ListN.{length, get_or, set, length-set, length-map}
use lib.Seq.{get_or-set_same, get_or-set_other}
use lib.Dec.{eqb, ltb, leb}
use borrow.Author.Tests.{eq-eqb, ne_eqb, leb-true, leb-false, ltb-true, ltb-false, lt-ltb, le-ltb}
use Rattle.laws.proofs.Walks.{by_test}
use Rattle.defs.specs.Lists.{tab, tab_from, keep_if}
use Rattle.defs.specs.SeqGraph.{Edge, Graph, edges_from, edges_into, outgoing_nodes, incoming_nodes, out_degree, in_degree}
use Rattle.tabs.proofs.Tabs.{get_or-tab, tab-snoc, tab-ext, tab-zero}
use Rattle.store.specs.Store.{edge_in, edges_in, graph_in, nums_in, EndsBelow}
use Rattle.index.specs.Index.{edge_end, end_at, at_from, incident_edges, Index, pair_at, Indexed, Indexable, Collected}
use Rattle.index.proofs.AdjLaws.{Built, built-start, built-more, built-done, at_head, at-step, at-end}

-- the first of two numbers, and the first of four
pub pair-first : (l : List ℕ) (i : ℕ) → get_or l (2 * i) 0 ≡ pair_at 0 l i
pair-first l i = ap (λ (x : ℕ). get_or l x 0) (sym (add-zero (2 * i)))

pub end-first : (es : List ℕ) (e : ℕ) → edge_end 0 es e ≡ get_or es (4 * e) 0
end-first es e = ap (λ (x : ℕ). get_or es x 0) (add-zero (4 * e))

pub end_is : (es : List ℕ) (off e : ℕ) → off ≤ 1 → end_at off (edge_in es e) ≡ edge_end off es e
unfolding end_at
end_is es zero e l = sym (end-first es e)
end_is es (suc zero) e l = refl
end_is es (suc (suc n)) e l = absurd (omega arith)

pub end_below : {m n : ℕ} {es : List ℕ} (off : ℕ) → EndsBelow n m es → (e : ℕ) → e < m → off ≤ 1 → get_or es (4 * e + off) 0 < n
end_below {m} {n} {es} off E e h b = elim (ℕ_discrete off 0) [
  | yes q ↦ omega (arith, (E.at e h).0, ap (λ (x : ℕ). get_or es (4 * e + x) 0) q, end-first es e)
  | no ne ↦ let q : off ≡ 1 = omega arith in omega (arith, (E.at e h).1, ap (λ (x : ℕ). get_or es (4 * e + x) 0) q)
]

-- ---- building: both ends in one turn

pub record Building (m n : ℕ) (es heads₀ nexts₀ heads nexts : List ℕ) (k : ℕ) : Type 0 where
  pub heads-len : length heads ≡ length heads₀
  pub nexts-len : length nexts ≡ length nexts₀
  pub out : Built (edge_end 0 es) m n (pair_at 0 heads) (pair_at 0 nexts) k
  pub into : Built (edge_end 1 es) m n (pair_at 1 heads) (pair_at 1 nexts) k

pub building-start : {m n : ℕ} {es heads nexts : List ℕ} (heads' : List ℕ) → length heads' ≡ length heads
    → ((k : ℕ) → k < 2 * n → get_or heads' k 0 ≡ m) → Building m n es heads nexts heads' nexts m
building-start heads' l h = record {
  heads-len = l;
  nexts-len = refl;
  out = built-start (λ v b. h (2 * v + 0) (omega arith));
  into =
      built-start (λ v b. h (2 * v + 1) (omega arith));
}

pub indexable-kept : {m n : ℕ} {es heads heads' nexts : List ℕ} → Indexable m n es heads nexts → length heads' ≡ length heads → Indexable m n es heads' nexts
indexable-kept F q = record { room = F.room; heads-room = omega (arith, F.heads-room); nexts-room = F.nexts-room; small = F.small; ends = F.ends }

module _ {m n : ℕ} {es heads₀ nexts₀ : List ℕ} (F : Indexable m n es heads₀ nexts₀) where
  -- u and v are the places of the ends' heads
  pub building-more : {heads nexts : List ℕ} {k : ℕ} (e u v : ℕ) → Building m n es heads₀ nexts₀ heads nexts k → k ≡ e + 1 → u
      ≡ 2 * get_or es (4 * e) 0 → v ≡ 2 * get_or es (4 * e + 1) 0 + 1
      → Building m n es heads₀ nexts₀ (set (set heads u e) v e) (set (set nexts (2 * e) (get_or heads u 0)) (2 * e + 1) (get_or (set heads u e) v 0)) e
  building-more {heads} {nexts} {k} e u v B q hu hv = record {
    heads-len = simp length-set B.heads-len;
    nexts-len = simp length-set B.nexts-len;
    out = built-more e B.out q (omega (arith, a₀, f₀))
        (ap (λ (x : ℕ). get_or heads'' (2 * x + 0) 0) (sym f₀') ∙ ap (λ (x : ℕ). get_or heads'' x 0) pu
        ∙ get_or-set_other heads' v u e 0 (λ z. omega arith) ∙ get_or-set_same heads u e 0 (omega (arith, a₀, B.heads-len, F.heads-room)))
        (λ w b ne. get_or-set_other heads' v (2 * w + 0) e 0 (λ z. omega arith) ∙ get_or-set_other heads u (2 * w + 0) e 0 (λ z. ne (omega (arith, f₀))))
        (get_or-set_other nexts' (2 * e + 1) (2 * e + 0) _ 0 (λ z. omega arith) ∙ ap (λ (x : ℕ). get_or nexts' x 0) (add-zero (2 * e))
        ∙ get_or-set_same nexts (2 * e) (get_or heads u 0) 0 (omega (arith, B.nexts-len, F.nexts-room, h))
        ∙ ap (λ (x : ℕ). get_or heads x 0) (omega (arith, f₀)))
        (λ d ne. get_or-set_other nexts' (2 * e + 1) (2 * d + 0) _ 0 (λ z. omega arith) ∙ get_or-set_other nexts (2 * e) (2 * d + 0) _ 0 (λ z. ne (omega arith)));
    into = built-more e B.into q (omega (arith, a₁))
        (ap (λ (x : ℕ). get_or heads'' x 0) (sym hv) ∙ get_or-set_same heads' v e 0 (rw (length-set heads u e) (omega (arith, a₁, B.heads-len, F.heads-room))))
        (λ w b ne. get_or-set_other heads' v (2 * w + 1) e 0 (λ z. ne (omega arith)) ∙ get_or-set_other heads u (2 * w + 1) e 0 (λ z. omega arith))
        (get_or-set_same nexts' (2 * e + 1) _ 0 (rw (length-set nexts (2 * e) (get_or heads u 0))
        (omega (arith, B.nexts-len, F.nexts-room, h))) ∙ get_or-set_other heads u v e 0 (λ z. omega arith)
        ∙ ap (λ (x : ℕ). get_or heads x 0) hv)
        (λ d ne. get_or-set_other nexts' (2 * e + 1) (2 * d + 1) _ 0 (λ z. ne (omega arith)) ∙ get_or-set_other nexts (2 * e) (2 * d + 1) _ 0 (λ z. omega arith));
  }
    where
      heads' : List ℕ
      heads' = set heads u e

      heads'' : List ℕ
      heads'' = set heads' v e

      nexts' : List ℕ
      nexts' = set nexts (2 * e) (get_or heads u 0)

      h : e < m
      h = omega (arith, B.out.low)

      f₀ : get_or es (4 * e + 0) 0 ≡ get_or es (4 * e) 0
      f₀ = end-first es e

      f₀' : get_or es (4 * e) 0 ≡ get_or es (4 * e + 0) 0
      f₀' = sym f₀

      pu : 2 * get_or es (4 * e) 0 + 0 ≡ u
      pu = omega arith

      a₀ : get_or es (4 * e) 0 < n
      a₀ = (F.ends.at e h).0

      a₁ : get_or es (4 * e + 1) 0 < n
      a₁ = (F.ends.at e h).1

  pub building-end : {heads nexts : List ℕ} {k : ℕ} → Building m n es heads₀ nexts₀ heads nexts k → k ≤ 0 → Indexed m n es heads nexts
  building-end {heads} {nexts} B z = record {
    room = F.room;
    heads-room = omega (arith, B.heads-len, F.heads-room);
    nexts-room = omega (arith, B.nexts-len, F.nexts-room);
    ends = F.ends;
    index = λ off b. elim (ℕ_discrete off 0) [
      | yes q ↦ subst (λ (x : ℕ). Index (edge_end x es) m n (pair_at x heads) (pair_at x nexts)) (sym q) (built-done B.out z)
      | no ne ↦ (let q : off ≡ 1 = omega arith in subst (λ (x : ℕ). Index (edge_end x es) m n (pair_at x heads) (pair_at x nexts)) (sym q) (built-done B.into z))
    ];
  }

-- ---- collecting

pub record Collecting (off m : ℕ) (es : List ℕ) (v : ℕ) (out₀ out : List ℕ) (j e : ℕ) : Type 0 where
  pub high : e ≤ m
  pub low : j ≤ e
  pub len : length out ≡ length out₀
  pub hit : e < m → edge_end off es e ≡ v
  pub is : map (edge_end (1 - off) es) (incident_edges (edge_end off es) m v) ≡ nums_in j out ++ map (edge_end (1 - off) es) (at_from (edge_end off es) m v e)

pub nums-push : (j x : ℕ) (out : List ℕ) → j < length out → nums_in (j + 1) (set out j x) ≡ nums_in j out ++ (x ∷ [])
nums-push j x out h = tab-snoc j _ ∙ (λ i. tab-ext j (λ (k : ℕ). get_or (set out j x) k 0) (λ (k : ℕ). get_or out k 0) (λ k b.
    get_or-set_other out j k x 0 (λ q. omega arith)) i ++ (get_or-set_same out j x 0 h i ∷ []))

module _ {off m n : ℕ} {es : List ℕ} {head next : ℕ → ℕ} {v : ℕ} {out₀ : List ℕ} (I : Index (edge_end off es) m n head next) where
  pub collecting-start : v < n → Collecting off m es v out₀ out₀ 0 (head v)
  collecting-start h = let N = I.heads v h in record {
    high = N.high;
    low = omega arith;
    len = refl;
    hit = N.hit;
    is = ap (map (edge_end (1 - off) es)) (at_head (edge_end off es) m n head next v I h)
        ∙ sym (ap (λ (l : List ℕ). l ++ map (edge_end (1 - off) es) (at_from (edge_end off es) m v (head v))) (tab-zero _));
  }

  pub collecting-more : {out : List ℕ} {j e x : ℕ} → Collecting off m es v out₀ out j e → e < m → m ≤ length out₀
      → x ≡ edge_end (1 - off) es e → Collecting off m es v out₀ (set out j x) (j + 1) (next e)
  collecting-more {out} {j} {e} {x} C h r q = let N = I.nexts e h in record {
    high = N.high;
    low = omega (arith, N.low);
    len = length-set out j _ ∙ C.len;
    hit = λ b. N.hit b ∙ C.hit h;
    is = C.is ∙ ap (λ (l : List ℕ). nums_in j out ++ map (edge_end (1 - off) es) l) (at-step (edge_end off es) m n head next v e I h (C.hit h))
        ∙ sym (append_assoc (nums_in j out) (edge_end (1 - off) es e ∷ []) _)
        ∙ ap (λ (y : ℕ). (nums_in j out ++ (y ∷ [])) ++ map (edge_end (1 - off) es) (at_from (edge_end off es) m v (next e))) (sym q)
        ∙ ap (λ (l : List ℕ). l ++ map (edge_end (1 - off) es) (at_from (edge_end off es) m v (next e))) (sym (nums-push j _ out (omega (arith, C.len))));
  }

  pub collecting-end : {out : List ℕ} {j e : ℕ} → Collecting off m es v out₀ out j e → m ≤ e → Collected off m es v j out
  collecting-end {out} {j} {e} C h = record {
    most = omega arith;
    is = sym (C.is ∙ ap (λ (l : List ℕ). nums_in j out ++ map (edge_end (1 - off) es) l) (at-end (edge_end off es) m v e h) ∙ append-nil _);
  }

-- ---- the definitions' edges at a vertex

module _ (off m : ℕ) (es : List ℕ) (end : Edge → ℕ) (is : (e : ℕ) → end (edge_in es e) ≡ edge_end off es e) (v : ℕ) where
  keep-from : (s n : ℕ) → keep_if (λ (e : Edge). eqb (end e) v) (tab_from s n (edge_in es))
      ≡ map (edge_in es) (keep_if (λ (e : ℕ). eqb (edge_end off es e) v) (tab_from s n (λ (e : ℕ). e)))
  unfolding keep_if tab_from
  keep-from s zero = refl
  keep-from s (suc n) = rw (← is s) (both (eqb (end (edge_in es s)) v) _ _ (keep-from (suc s) n))
    where
      both : (t : Bool) (xs : List Edge) (ys : List ℕ) → xs ≡ map (edge_in es) ys → cond t (edge_in es s ∷ xs) xs ≡ map (edge_in es) (cond t (s ∷ ys) ys)
      both true xs ys e = ap (λ (l : List Edge). edge_in es s ∷ l) e
      both false xs ys e = e

  pub keep-is : keep_if (λ (e : Edge). eqb (end e) v) (edges_in m es) ≡ map (edge_in es) (incident_edges (edge_end off es) m v)
  keep-is = let z : m - 0 ≡ m = omega arith in rw z (keep-from 0 m)

module _ (k n m : ℕ) (es vs p : List ℕ) (v : ℕ) where
  pub from_is : edges_from (graph_in k n m es vs p) v ≡ map (edge_in es) (incident_edges (edge_end 0 es) m v)
  unfolding edges_from
  from_is = keep-is 0 m es (λ (e : Edge). e.from) (λ e. sym (end-first es e)) v

  pub into-is : edges_into (graph_in k n m es vs p) v ≡ map (edge_in es) (incident_edges (edge_end 1 es) m v)
  unfolding edges_into
  into-is = keep-is 1 m es (λ (e : Edge). e.to) (λ e. refl) v

  pub out-degree-is : out_degree (graph_in k n m es vs p) v ≡ length (incident_edges (edge_end 0 es) m v)
  unfolding out_degree
  out-degree-is = ap length from_is ∙ length-map (incident_edges (edge_end 0 es) m v) (edge_in es)

  pub in-degree-is : in_degree (graph_in k n m es vs p) v ≡ length (incident_edges (edge_end 1 es) m v)
  unfolding in_degree
  in-degree-is = ap length into-is ∙ length-map (incident_edges (edge_end 1 es) m v) (edge_in es)

  pub outgoing-is : outgoing_nodes (graph_in k n m es vs p) v ≡ map (edge_end 1 es) (incident_edges (edge_end 0 es) m v)
  unfolding outgoing_nodes
  outgoing-is = ap (map (λ (e : Edge). e.to)) from_is ∙ map-map (λ (e : Edge). e.to) (edge_in es) (incident_edges (edge_end 0 es) m v)

  pub incoming-is : incoming_nodes (graph_in k n m es vs p) v ≡ map (λ (e : ℕ). get_or es (4 * e) 0) (incident_edges (edge_end 1 es) m v)
  unfolding incoming_nodes
  incoming-is = ap (map (λ (e : Edge). e.from)) into-is ∙ map-map (λ (e : Edge). e.from) (edge_in es) (incident_edges (edge_end 1 es) m v)

-- ---- none, one, several edges at v

module _ {f : ℕ → ℕ} {m n : ℕ} {head next : ℕ → ℕ} {v : ℕ} (I : Index f m n head next) (h : v < n) where
  pub at_none : (e : ℕ) → e ≡ head v → m ≤ e → incident_edges f m v ≡ []
  at_none e q b = at_head f m n head next v I h ∙ at-end f m v (head v) (omega arith)

  pub at_first : (e : ℕ) → e ≡ head v → e < m → incident_edges f m v ≡ e ∷ at_from f m v (next e)
  at_first e q b =
      at_head f m n head next v I h ∙ ap (at_from f m v) (sym q)
      ∙ at-step f m n head next v e I b (rw (← q) at ((I.heads v h).hit (omega arith)))

  pub one_none : (e : ℕ) → e ≡ head v → m ≤ e → false ≡ eqb (length (incident_edges f m v)) 1
  one_none e q b = rw (at_none e q b)

  pub several-none : (e : ℕ) → e ≡ head v → m ≤ e → false ≡ ltb 1 (length (incident_edges f m v))
  several-none e q b = rw (at_none e q b)

  rest-is : (e x : ℕ) → e ≡ head v → e < m → x ≡ next e → (m ≤ x → length (incident_edges f m v) ≡ 1) × (x < m → 1 < length (incident_edges f m v))
  rest-is e x q b w = (
    λ c. ap length (at_first e q b) ∙ ap suc (ap length (at-end f m v (next e) (omega arith))),
    λ c. let N = I.nexts e b in
        let hit : f (next e) ≡ v = N.hit (omega arith) ∙ rw (← q) at ((I.heads v h).hit (omega arith)) in
        omega (arith, ap length (at_first e q b), ap length (at-step f m n head next v (next e) I (omega arith) hit)),
  )

  pub one-rest : (e x : ℕ) → e ≡ head v → e < m → x ≡ next e → leb m x ≡ eqb (length (incident_edges f m v)) 1
  one-rest e x q b w = by_test (leb m x)
      (λ t. t ∙ sym (eq-eqb _ 1 ((rest-is e x q b w).0 (leb-true m x t))))
      (λ t. t ∙ sym (ne_eqb _ 1 (λ (z : length (incident_edges f m v) ≡ 1). omega (arith, (rest-is e x q b w).1 (leb-false m x t)))))

  pub several-rest : (e x : ℕ) → e ≡ head v → e < m → x ≡ next e → ltb x m ≡ ltb 1 (length (incident_edges f m v))
  several-rest e x q b w = by_test (ltb x m)
      (λ t. t ∙ sym (lt-ltb 1 (length (incident_edges f m v)) ((rest-is e x q b w).1 (ltb-true x m t))))
      (λ t. t ∙ sym (le-ltb 1 (length (incident_edges f m v)) (omega (arith, (rest-is e x q b w).0 (ltb-false x m t)))))
