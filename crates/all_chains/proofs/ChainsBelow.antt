-- The chains that start below v, and what the next vertex adds: to the vertices that go, to where edges leave, to the sequences, to the counts.
-- Assumes nothing.
use Prim.Native.Nat.{ℕ, zero, suc, ◌+◌, ◌≤◌, ◌<◌}
use native.Mathlib.Omega.{arith}
use native.Mathlib.Nat.{zero-add, add-zero}
use native.Mathlib.Numerals.{add-one}
use mathlib.Core.Path.{◌≡◌, refl, sym, ap, ◌∙◌, subst}
use mathlib.Core.Logic.{⊎_elim}
use mathlib.Core.Bool.{Bool, cond}
use mathlib.Core.List.Memᴰ
use mathlib.Core.List.{List, [], ◌∷◌, ◌++◌, map, append_assoc, append-nil, Memᴰ}
use lib.Dec.{eqb}
use lib.ListN.{length, get_or, set, length-set, length-append}
use lib.Seq.{get_or-set_other}
use borrow.Author.Tests.{eqb-true, ne_eqb}
use Rattle.defs.specs.Lists.{concat, up_from, keep_at}
use Rattle.defs.specs.SeqGraph.{Edge, Graph, node_count, vertex_sequence, keeps, remove_vertices_by_id, compact_vertices}
use Rattle.defs.specs.Zip.{linear_chain, last_of}
use Rattle.laws.proofs.Walks.{by_test}
use Rattle.laws.proofs.Nets.{Bounded}
use Rattle.laws.proofs.Counts.{total, total_kept, total-one, total-append, Distinct}
use Rattle.laws.proofs.Cycles.{below-up_from}
use Rattle.laws.proofs.Sound.{Sound}
use Rattle.laws.proofs.Whole.{by_list}
use Rattle.laws.proofs.ZipCounts.{distinct-chain}
use Rattle.laws.proofs.SplitCounts.{length-flat-map}
use Rattle.all_chains.specs.AllChains.{LinearChain, chains_from, chains_of, gone_of, from_after, move_from_all, chain_sequence, write_chains}
use Rattle.all_chains.specs.AllChains.{absorb_chains, merge_linear_chains}
use Rattle.all_chains.proofs.Traces.{WholeChain, whole-chained, linear-start, linear-whole}
use Rattle.all_chains.proofs.Chains as C
use Rattle.all_chains.proofs.Chains.{of-chains, chain-below, chains-nil, chains_cons, chains-none}
use Rattle.all_chains.proofs.OnePass.{from_after-yes, from_after-no, last_mem, mem-gone}
use Rattle.all_chains.proofs.Zipped.{distinct-up_from}

-- ---- the chains that start below v

abbrev pub chains_below : Graph → ℕ → List LinearChain
chains_below g v = chains_from g (up_from 0 v)

up_from-snoc : (i n : ℕ) → up_from i (suc n) ≡ up_from i n ++ ((i + n) ∷ [])
unfolding up_from
up_from-snoc i zero = ap (λ (x : ℕ). x ∷ []) (sym (add-zero i))
up_from-snoc i (suc n) = ap (λ (l : List ℕ). i ∷ l) (up_from-snoc (suc i) n ∙ ap (λ (x : ℕ). up_from (suc i) n ++ (x ∷ [])) (omega arith))

chains-append : (g : Graph) (xs ys : List ℕ) → chains_from g (xs ++ ys) ≡ chains_from g xs ++ chains_from g ys
chains-append g [] ys = ap (λ (l : List LinearChain). l ++ chains_from g ys) (sym (chains-none g))
chains-append g (x ∷ xs) ys = by_list (linear_chain g x)
    (λ t. chains-nil g x (xs ++ ys) t ∙ (chains-append g xs ys ∙ ap (λ (l : List LinearChain). l ++ chains_from g ys) (sym (chains-nil g x xs t))))
    (λ v vs t. chains_cons g x (xs ++ ys) v vs t
    ∙ (ap (λ (l : List LinearChain). record { first = x; rest = v ∷ vs } ∷ l) (chains-append g xs ys)
    ∙ ap (λ (l : List LinearChain). l ++ chains_from g ys) (sym (chains_cons g x xs v vs t))))

pub below_none : (g : Graph) → chains_below g 0 ≡ []
unfolding up_from
below_none g = chains-none g

below_more : (g : Graph) (v : ℕ) → chains_below g (v + 1) ≡ chains_below g v ++ chains_from g (v ∷ [])
below_more g v =
    ap (chains_below g) (add-one v)
    ∙ (ap (chains_from g) (up_from-snoc 0 v ∙ ap (λ (x : ℕ). up_from 0 v ++ (x ∷ [])) (zero-add v)) ∙ chains-append g (up_from 0 v) (v ∷ []))

-- no chain starts at v
pub below-skip : (g : Graph) (v : ℕ) → linear_chain g v ≡ [] → chains_below g (v + 1) ≡ chains_below g v
below-skip g v t = below_more g v ∙ (ap (λ (l : List LinearChain). chains_below g v ++ l) (chains-nil g v [] t ∙ chains-none g) ∙ append-nil (chains_below g v))

-- one does
pub below-add : (g : Graph) (v y : ℕ) (ys : List ℕ) → linear_chain g v ≡ y ∷ ys → chains_below g (v + 1) ≡ chains_below g v
    ++ (record { first = v; rest = y ∷ ys } ∷ [])
below-add g v y ys t = below_more g v ∙ ap (λ (l : List LinearChain). chains_below g v ++ l) (chains_cons g v [] y ys t
    ∙ ap (λ (l : List LinearChain). record { first = v; rest = y ∷ ys } ∷ l) (chains-none g))

-- ---- one chain more

pub gone-snoc : (cs : List LinearChain) (c : LinearChain) → gone_of (cs ++ (c ∷ [])) ≡ gone_of cs ++ c.rest
unfolding gone_of
gone-snoc [] c = append-nil c.rest
gone-snoc (d ∷ cs) c = ap (λ (l : List ℕ). d.rest ++ l) (gone-snoc cs c) ∙ sym (append_assoc d.rest (gone_of cs) c.rest)

pub write-snoc : (seq : ℕ → List ℕ) (cs : List LinearChain) (c : LinearChain) (vs : List (List ℕ)) → write_chains seq (cs ++ (c ∷ [])) vs
    ≡ set (write_chains seq cs vs) c.first (chain_sequence seq c)
unfolding write_chains
write-snoc seq [] c vs = refl
write-snoc seq (d ∷ cs) c vs = write-snoc seq cs c (set vs d.first (chain_sequence seq d))

pub count-snoc : (cs : List LinearChain) (c : LinearChain) → length (cs ++ (c ∷ [])) ≡ length cs + 1
count-snoc cs c = length-append cs (c ∷ [])

pub write-other : (seq : ℕ → List ℕ) (cs : List LinearChain) (vs : List (List ℕ)) (u : ℕ)
    → ((d : LinearChain) → Memᴰ d cs → u ≡ d.first → ⊥) → get_or (write_chains seq cs vs) u [] ≡ get_or vs u []
unfolding write_chains
write-other seq [] vs u n = refl
write-other seq (d ∷ cs) vs u n = write-other seq cs (set vs d.first (chain_sequence seq d)) u (λ e m. n e (Memᴰ.tail m))
    ∙ get_or-set_other vs d.first u (chain_sequence seq d) [] (n d (Memᴰ.head refl))

pub write-length : (seq : ℕ → List ℕ) (cs : List LinearChain) (vs : List (List ℕ)) → length (write_chains seq cs vs) ≡ length vs
unfolding write_chains
write-length seq [] vs = refl
write-length seq (d ∷ cs) vs = write-length seq cs (set vs d.first (chain_sequence seq d)) ∙ length-set vs d.first (chain_sequence seq d)

total-snoc : {A : Type 0} (f : A → ℕ) (l : List A) (x : A) → total f (l ++ (x ∷ [])) ≡ total f l + f x
unfolding total
total-snoc f [] x = omega arith
total-snoc f (y ∷ l) x = omega (arith, total-snoc f l x)

abbrev end : LinearChain → ℕ
end c = last_of c.first c.rest

from_after-snoc : (cs : List LinearChain) (c : LinearChain) (u : ℕ)
    → ((d : LinearChain) → Memᴰ d cs → last_of d.first d.rest ≡ last_of c.first c.rest → ⊥)
    → from_after (cs ++ (c ∷ [])) u ≡ cond (eqb u (last_of c.first c.rest)) c.first (from_after cs u)
unfolding from_after
from_after-snoc [] c u n = refl
from_after-snoc (d ∷ cs) c u n = by_test (eqb u (end d))
    (λ t. from_after-yes d (cs ++ (c ∷ [])) u t ∙ sym (ap (λ (b : Bool). cond b c.first (from_after (d ∷ cs) u))
    (ne_eqb u (end c) (λ e. n d (Memᴰ.head refl) (sym (eqb-true _ _ t) ∙ e))) ∙ from_after-yes d cs u t))
    (λ t. from_after-no d (cs ++ (c ∷ [])) u t ∙ (from_after-snoc cs c u (λ e m. n e (Memᴰ.tail m))
    ∙ sym (ap (cond (eqb u (end c)) c.first) (from_after-no d cs u t))))

-- ---- the chain at v, and those before it

module _ (g : Graph) (h : Sound g) (v y : ℕ) (ys : List ℕ) (t : linear_chain g v ≡ y ∷ ys) where
  whole-v : WholeChain g v (y ∷ ys)
  whole-v = let a = linear-start g v y ys t in subst (WholeChain g v) t (linear-whole g h v a.0 a.1)

  -- they have no vertex in common
  pub before-apart : (d : LinearChain) → Memᴰ d (chains_below g v) → (u : ℕ) → Memᴰ u (d.first ∷ d.rest) → Memᴰ u (v ∷ y ∷ ys) → ⊥
  before-apart d m u k =
      let i = of-chains g h (up_from 0 v) d m in
      C.chain-out g h v y ys (linear-start g v y ys t).1 whole-v d.first (λ e.
      omega (arith, below-up_from 0 v d.first i.among, e)) i.starts d.rest i.whole u k

  -- its last vertex hands its edges to v
  pub from_after-add : (u : ℕ) → from_after (chains_below g (v + 1)) u ≡ cond (eqb u (last_of v (y ∷ ys))) v (from_after (chains_below g v) u)
  from_after-add u = ap (λ (cs : List LinearChain). from_after cs u) (below-add g v y ys t) ∙ from_after-snoc (chains_below g v) record { first = v; rest = y ∷ ys } u
      (λ d m e. before-apart d m (last_of d.first d.rest) (last_mem d.first d.rest)
      (subst (λ (x : ℕ). Memᴰ x (v ∷ y ∷ ys)) (sym e) (last_mem v (y ∷ ys))))

  -- the sequences of the chain have not been written over
  pub sequence-now : (u : ℕ) → Memᴰ u (v ∷ y ∷ ys) → get_or (write_chains (vertex_sequence g) (chains_below g v) g.verts) u [] ≡ vertex_sequence g u
  unfolding vertex_sequence
  sequence-now u k = write-other (vertex_sequence g) (chains_below g v) g.verts u (λ d m e. before-apart d m u (Memᴰ.head e) k)

  pub write-add : write_chains (vertex_sequence g) (chains_below g (v + 1)) g.verts
      ≡ set (write_chains (vertex_sequence g) (chains_below g v) g.verts) v (concat (map (vertex_sequence g) (v ∷ y ∷ ys)))
  unfolding chain_sequence
  write-add = ap (λ (cs : List LinearChain). write_chains (vertex_sequence g) cs g.verts) (below-add g v y ys t)
      ∙ write-snoc (vertex_sequence g) (chains_below g v) record { first = v; rest = y ∷ ys } g.verts

  pub gone-add : gone_of (chains_below g (v + 1)) ≡ gone_of (chains_below g v) ++ (y ∷ ys)
  gone-add = ap gone_of (below-add g v y ys t) ∙ gone-snoc (chains_below g v) record { first = v; rest = y ∷ ys }

  pub count_add : length (chains_below g (v + 1)) ≡ length (chains_below g v) + 1
  count_add = ap length (below-add g v y ys t) ∙ count-snoc (chains_below g v) record { first = v; rest = y ∷ ys }

  -- the bytes written
  pub bytes-add : total (λ c. length (chain_sequence (vertex_sequence g) c)) (chains_below g (v + 1))
      ≡ total (λ c. length (chain_sequence (vertex_sequence g) c)) (chains_below g v) + length (concat (map (vertex_sequence g) (v ∷ y ∷ ys)))
  unfolding chain_sequence
  bytes-add = ap (total (λ c. length (chain_sequence (vertex_sequence g) c))) (below-add g v y ys t)
      ∙ total-snoc (λ c. length (chain_sequence (vertex_sequence g) c)) (chains_below g v) record { first = v; rest = y ∷ ys }

-- ---- the whole

-- all the vertices of the chains
unfoldable pub all_in : List LinearChain → List ℕ
all_in [] = []
all_in (c ∷ cs) = (c.first ∷ c.rest) ++ all_in cs

mem-all : (cs : List LinearChain) (v : ℕ) → Memᴰ v (all_in cs) → (c : LinearChain) × Memᴰ c cs × Memᴰ v (c.first ∷ c.rest)
unfolding all_in
mem-all [] v m = absurd (Memᴰ.not-nil m)
mem-all (c ∷ cs) v m = ⊎_elim {C = (c' : LinearChain) × Memᴰ c' (c ∷ cs) × Memᴰ v (c'.first ∷ c'.rest)}
    (λ n. (c, Memᴰ.head refl, n)) (λ n. let r = mem-all cs v n in (r.0, Memᴰ.tail r.1, r.2)) (Memᴰ.append_cases (c.first ∷ c.rest) m)

distinct_append : (xs ys : List ℕ) → Distinct xs → Distinct ys → ((v : ℕ) → Memᴰ v xs → Memᴰ v ys → ⊥) → Distinct (xs ++ ys)
distinct_append [] ys a b n = b
distinct_append (x ∷ xs) ys a b n = (
  λ m. ⊎_elim a.0 (λ k. n x (Memᴰ.head refl) k) (Memᴰ.append_cases xs m),
  distinct_append xs ys a.1 b (λ v m k. n v (Memᴰ.tail m) k),
)

module _ (g : Graph) (h : Sound g) where
  chain-here : (s : ℕ) (ss : List ℕ) → (Memᴰ s ss → ⊥) → (y : ℕ) (ys : List ℕ) → linear_chain g s ≡ y ∷ ys → (u : ℕ)
      → Memᴰ u (s ∷ y ∷ ys) → (d : LinearChain) → Memᴰ d (chains_from g ss) → Memᴰ u (d.first ∷ d.rest) → ⊥
  chain-here s ss n y ys t u k d m j =
      let i = of-chains g h ss d m in
      C.chain-out g h s y ys (linear-start g s y ys t).1 (whole-v g h s y ys t) d.first (λ e.
      n (subst (λ (x : ℕ). Memᴰ x ss) e i.among)) i.starts d.rest i.whole u j k

  distinct-linear : (s y : ℕ) (ys : List ℕ) → linear_chain g s ≡ y ∷ ys → Distinct (s ∷ y ∷ ys)
  distinct-linear s y ys t = distinct-chain g h.bounded h.rank h.ranks s (y ∷ ys) (whole-chained g s (y ∷ ys) (whole-v g h s y ys t))

  pub all-distinct : (ss : List ℕ) → Distinct ss → Distinct (all_in (chains_from g ss))
  unfolding all_in
  all-distinct [] d = subst (λ (cs : List LinearChain). Distinct (all_in cs)) (sym (chains-none g)) tt
  all-distinct (s ∷ ss) d = by_list (linear_chain g s)
      (λ t. subst (λ (cs : List LinearChain). Distinct (all_in cs)) (sym (chains-nil g s ss t)) (all-distinct ss d.1))
      (λ y ys t. subst (λ (cs : List LinearChain). Distinct (all_in cs)) (sym (chains_cons g s ss y ys t))
      (distinct_append (s ∷ y ∷ ys) (all_in (chains_from g ss)) (distinct-linear s y ys t) (all-distinct ss d.1)
      (λ u k m. let r = mem-all (chains_from g ss) u m in chain-here s ss d.0 y ys t u k r.0 r.1 r.2)))

  pub gone-distinct : (ss : List ℕ) → Distinct ss → Distinct (gone_of (chains_from g ss))
  unfolding gone_of
  gone-distinct [] d = subst (λ (cs : List LinearChain). Distinct (gone_of cs)) (sym (chains-none g)) tt
  gone-distinct (s ∷ ss) d = by_list (linear_chain g s)
      (λ t. subst (λ (cs : List LinearChain). Distinct (gone_of cs)) (sym (chains-nil g s ss t)) (gone-distinct ss d.1))
      (λ y ys t. subst (λ (cs : List LinearChain). Distinct (gone_of cs)) (sym (chains_cons g s ss y ys t))
      (distinct_append (y ∷ ys) (gone_of (chains_from g ss)) (distinct-linear s y ys t).1 (gone-distinct ss d.1)
      (λ u k m. let r = mem-gone (chains_from g ss) u m in chain-here s ss d.0 y ys t u (Memᴰ.tail k) r.0 r.1 (Memᴰ.tail r.2))))

  pub gone-below : (ss : List ℕ) (u : ℕ) → Memᴰ u (gone_of (chains_from g ss)) → u < node_count g
  gone-below ss u m = let r = mem-gone (chains_from g ss) u m in chain-below g h ss r.0 (of-chains g h ss r.0 r.1) u (Memᴰ.tail r.2)

  pub all-below : (ss : List ℕ) (u : ℕ) → Memᴰ u (all_in (chains_from g ss)) → u < node_count g
  all-below ss u m = let r = mem-all (chains_from g ss) u m in chain-below g h ss r.0 (of-chains g h ss r.0 r.1) u r.2

  -- what the chains hold together is at most what the graph holds: room for all of it behind the sequences
  pub chains-weight : (f : List ℕ → ℕ) (v : ℕ) → total (λ u. f (vertex_sequence g u)) (all_in (chains_below g v)) ≤ total f g.verts
  unfolding vertex_sequence node_count
  chains-weight f v =
      omega (arith, total_kept f [] g.verts (all_in (chains_below g v)) (all-distinct (up_from 0 v) (distinct-up_from 0 v)) (all-below (up_from 0 v)))

  -- so much is written
  sequences-total : (cs : List LinearChain) → total (λ c. length (chain_sequence (vertex_sequence g) c)) cs ≡ total (λ u. length (vertex_sequence g u)) (all_in cs)
  unfolding all_in total chain_sequence
  sequences-total [] = refl
  sequences-total (c ∷ cs) =
      omega (
        arith,
        length-flat-map (vertex_sequence g) (c.first ∷ c.rest),
        sequences-total cs,
        total-append (λ u. length (vertex_sequence g u)) (c.first ∷ c.rest) (all_in cs),
      )

  pub bytes_most : (v : ℕ) → total (λ c. length (chain_sequence (vertex_sequence g) c)) (chains_below g v) ≤ total length g.verts
  bytes_most v = omega (arith, sequences-total (chains_below g v), chains-weight length v)

  -- edges moved by a function that has for each vertex where its edges leave
  moved-edge : (cs : List LinearChain) (e : Edge) (x : ℕ) → x ≡ from_after cs e.from
      → ◌≡◌ {A = Edge} record { from = x; to = e.to; support = e.support; is_ref = e.is_ref; capped = e.capped } (move_from_all cs e)
  unfolding move_from_all
  moved-edge cs e x q = λ i. record { from = q i; to = e.to; support = e.support; is_ref = e.is_ref; capped = e.capped }

  pub move-by : (cs : List LinearChain) (froms : ℕ → ℕ) → ((u : ℕ) → u < node_count g → froms u ≡ from_after cs u)
      → map (λ (e : Edge). record { from = froms e.from; to = e.to; support = e.support; is_ref = e.is_ref; capped = e.capped })
      g.edges ≡ map (move_from_all cs) g.edges
  move-by cs froms at = over g.edges (λ e m. (h.bounded e m).0)
    where
      over : (es : List Edge) → ((e : Edge) → Memᴰ e es → e.from < node_count g)
          → map (λ (e : Edge). record { from = froms e.from; to = e.to; support = e.support; is_ref = e.is_ref; capped = e.capped }) es
          ≡ map (move_from_all cs) es
      over [] b = refl
      over (e ∷ es) b = λ i. moved-edge cs e (froms e.from) (at e.from (b e (Memᴰ.head refl))) i ∷ over es (λ f m. b f (Memᴰ.tail m)) i

  -- a moved edge leaves a vertex
  from_after-below : (cs : List LinearChain) → ((c : LinearChain) → Memᴰ c cs → c.first < node_count g) → (u : ℕ) → u < node_count g
      → from_after cs u < node_count g
  unfolding from_after
  from_after-below [] b u l = l
  from_after-below (c ∷ cs) b u l = by_test (eqb u (last_of c.first c.rest))
      (λ t. subst (λ (x : ℕ). x < node_count g) (sym (from_after-yes c cs u t)) (b c (Memᴰ.head refl)))
      (λ t. subst (λ (x : ℕ). x < node_count g) (sym (from_after-no c cs u t)) (from_after-below cs (λ d m. b d (Memᴰ.tail m)) u l))

  pub moved_order : (cs : List LinearChain) → node_count (absorb_chains cs g) ≡ node_count g
  unfolding absorb_chains node_count
  moved_order cs = write-length (vertex_sequence g) cs g.verts

  pub moved-bounded : (ss : List ℕ) → Bounded (absorb_chains (chains_from g ss) g)
  unfolding absorb_chains move_from_all
  moved-bounded ss e m =
      let a = Memᴰ.of_map (move_from_all (chains_from g ss)) g.edges m in
      let b = h.bounded a.0 a.1 in
      let l = from_after-below (chains_from g ss) (λ c k. (of-chains g h ss c k).old) a.0.from b.0 in (
        subst (λ (x : ℕ). x < node_count (absorb_chains (chains_from g ss) g)) (ap (λ (x : Edge). x.from) a.2)
            (subst (λ (x : ℕ). from_after (chains_from g ss) a.0.from < x) (sym (moved_order (chains_from g ss))) l),
        subst (λ (x : ℕ). x < node_count (absorb_chains (chains_from g ss) g)) (ap (λ (x : Edge). x.to) a.2)
            (subst (λ (x : ℕ). a.0.to < x) (sym (moved_order (chains_from g ss))) b.1),
      )

  -- each chain takes a vertex away, and those that go are all different
  pub chains-less : (ss : List ℕ) → length (chains_from g ss) ≤ length (gone_of (chains_from g ss))
  unfolding gone_of
  chains-less [] = omega (arith, ap length (chains-none g))
  chains-less (s ∷ ss) = by_list (linear_chain g s)
      (λ t. subst (λ (cs : List LinearChain). length cs ≤ length (gone_of cs)) (sym (chains-nil g s ss t)) (chains-less ss))
      (λ y ys t. subst (λ (cs : List LinearChain). length cs ≤ length (gone_of cs)) (sym (chains_cons g s ss y ys t))
      (omega (arith, chains-less ss, length-append (y ∷ ys) (gone_of (chains_from g ss)))))

  pub joined-order : node_count (merge_linear_chains (chains_of g) g) + length (gone_of (chains_of g)) ≡ node_count g
  unfolding merge_linear_chains remove_vertices_by_id compact_vertices chains_of node_count absorb_chains
  joined-order =
      let n = node_count g in
      let cs = chains_from g (up_from 0 n) in
      let vs = write_chains (vertex_sequence g) cs g.verts in
      omega (
        arith,
        total_kept (λ _. 1) [] vs (gone_of cs) (gone-distinct (up_from 0 n) (distinct-up_from 0 n)) (λ u m.
            omega (arith, gone-below (up_from 0 n) u m, write-length (vertex_sequence g) cs g.verts)),
        total-one (gone_of cs),
        total-one vs,
        total-one (keep_at (keeps (gone_of cs)) 0 vs),
        write-length (vertex_sequence g) cs g.verts,
      )

  pub joined-less : length (chains_of g) + node_count (merge_linear_chains (chains_of g) g) ≤ node_count g
  joined-less = let l : length (chains_of g) ≤ length (gone_of (chains_of g)) = unfold chains_of in chains-less (up_from 0 (node_count g)) in
      omega (arith, joined-order, l)
