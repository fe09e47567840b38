-- The edges of the split predecessors. Assumes nothing.
use mathlib.Core.Path.{◌≡◌, refl, sym, ap, ◌∙◌}
use mathlib.Core.Bool.{Bool, true, false}
use mathlib.Core.Logic.{⊎_elim}
use mathlib.Core.List.Memᴰ
use mathlib.Core.List.{List, [], ◌∷◌, ◌++◌, Memᴰ}
use Prim.Native.Nat.{ℕ, zero, suc, ◌+◌, ◌*◌, ◌-◌, ◌≤◌, ◌<◌}
use native.Mathlib.Nat.{add-zero}
use native.Mathlib.Numerals.{add-one}
use native.Mathlib.Omega.{arith}
use lib.ListN.{length, get_or}
use Rattle.defs.specs.Lists.{bit, tab, concat}
use Rattle.defs.specs.SeqGraph.{Edge, EdgeData, edge_data, has_ends, add_or_update_edge, add_or_update_edges}
use Rattle.defs.specs.Record.{flag_is_ref}
use Rattle.laws.proofs.Flags.{plain-says-ref, plain-not-capped}
use Rattle.laws.proofs.Walks.{by_test}
use Rattle.laws.proofs.Edges.{joins-ends}
use Rattle.laws.proofs.SplitCounts.{raise_all-append}
use Rattle.tabs.proofs.Tabs.{tab-snoc, tab-zero, length-tab, get_or-tab}
use Rattle.tabs.proofs.ListTabs.{tab-append, raise_all-none, mem-tab}
use Rattle.tabs.proofs.SumTabs.{concat-append, concat-snoc}
use Rattle.edge_data.specs.EdgeData.{carries}
use Rattle.store.specs.Store.{edge, edge_in, edges_in, put_edge, EndsBelow}
use Rattle.store.proofs.EdgeLaws.{absent_edge, length-put, put_other, packed-miss}
use Rattle.compact.proofs.CompactLaws.{ends-mem, mem-ends}
use Rattle.index.specs.Index.{edge_end}
use Rattle.redirect.specs.Redirect.{redirected_all, Redirectable, Redirected}
use Rattle.redirect.proofs.RaiseLaws.{first-missing, raise-longer, raise_all-longer, raise_all-ends}
use Rattle.redirect.proofs.RedirectLaws.{marks-start}
use Rattle.redirect.proofs.SameLaws.{all_same, indexed-same, into-ends}
use Rattle.split_suffix.specs.Split.{has_prefix, entry_number, from_prefix, to_bottom, link_edges, block_edges, suffix_number, node_edges, suffix_edges, Linkable, LinksDone}
use Rattle.split_suffix.specs.Split.{MarksLow, BlockReady, BlockDone, SplitEdgesReady, SplitEdgesDone}

-- ---- new edges behind the old ones

-- an edge with a new end is added
push-new : {y k : ℕ} {es : List ℕ} (a b s f : ℕ) → EndsBelow y k es → 4 * k + 4 ≤ length es → ((x z : ℕ) → x < y → z < y → x ≡ a → z ≡ b → ⊥)
    → edges_in (k + 1) (put_edge es k a b s f) ≡ add_or_update_edge a b (carries s f) (edges_in k es)
push-new {y} {k} {es} a b s f E r new = packed-miss k es (put_edge es k a b s f) a b record { support = s; flag = f } k r
    (sym (first-missing (has_ends a b) absent_edge (edges_in k es) none ∙ length-tab k (edge_in es))) (omega arith) refl
  where
    none : (j : ℕ) → j < length (edges_in k es) → has_ends a b (get_or (edges_in k es) j absent_edge) ≡ false
    none j h =
        let c : j < k = omega (arith, h, length-tab k (edge_in es)) in
        rw (get_or-tab k (edge_in es) j absent_edge c) (by_test (has_ends a b (edge_in es j)) (λ t. let z = joins-ends a b (edge_in es j) t in
        absurd (new _ _ (E.at j c).0 (E.at j c).1 z.0 z.1)) (λ t. t))

-- the flag of a new edge says whether it is a reference edge, and that it is not capped
plain-is : (r : Bool) → ◌≡◌ {A = EdgeData} (carries 1 (bit r)) record { support = 1; is_ref = r; capped = false }
plain-is r = λ i. record { support = 1; is_ref = plain-says-ref r i; capped = plain-not-capped r i }

module _ {y bottom k : ℕ} {es : List ℕ} (L : Linkable y bottom k es) where
  pub link-one : (s f : ℕ) → LinksDone false y bottom s f k es (k + 1) (put_edge es k y bottom s f)
  unfolding add_or_update_edges edge_data
  link-one s f = record {
    is = push-new y bottom s f L.ends (omega (arith, L.room)) (λ x z a b q r. omega arith);
    old = λ j b. put_other es k y bottom s f j (λ q. omega arith);
  }

  module _ (s f : ℕ) where
    abbrev plain : Edge
    plain = from_prefix y (edge y bottom s f)

    abbrev es₁ : List ℕ
    es₁ = put_edge es k (y + 1) y 1 (bit (flag_is_ref f))

    first-is : edges_in (k + 1) es₁ ≡ add_or_update_edge (y + 1) y (edge_data plain) (edges_in k es)
    unfolding edge_data
    first-is = push-new (y + 1) y 1 (bit (flag_is_ref f)) L.ends (omega (arith, L.room)) (λ x z a b q r. omega arith)
        ∙ ap (λ (d : EdgeData). add_or_update_edge (y + 1) y d (edges_in k es)) (plain-is (flag_is_ref f))

    -- the edges then: none leaves y
    old-ends : (e : Edge) → Memᴰ e (edges_in (k + 1) es₁) → (e.from ≡ y → ⊥)
    unfolding add_or_update_edges
    old-ends e m = raise_all-ends (λ a b. a ≡ y → ⊥) (plain ∷ []) (edges_in k es)
        (λ d o q. omega (arith, q, (ends-mem L.ends d o).0))
        (λ d o q. ⊎_elim (λ (i : d ≡ plain).
        omega (arith, q, ap (λ (x : Edge). x.from) i)) (λ n. Memᴰ.not-nil n) (Memᴰ.cases_cons o))
        e (rw first-is at m)

    second_is : edges_in (k + 1 + 1) (put_edge es₁ (k + 1) y bottom s f) ≡ add_or_update_edge y bottom (carries s f) (edges_in (k + 1) es₁)
    second_is = packed-miss (k + 1) es₁ (put_edge es₁ (k + 1) y bottom s f) y bottom record { support = s; flag = f } (k + 1)
        (rw (length-put es k (y + 1) y 1 (bit (flag_is_ref f))) (omega (arith, L.room)))
        (sym (first-missing (has_ends y bottom) absent_edge (edges_in (k + 1) es₁) none ∙ length-tab (k + 1) (edge_in es₁))) (omega arith) refl
      where
        none : (j : ℕ) → j < length (edges_in (k + 1) es₁) → has_ends y bottom (get_or (edges_in (k + 1) es₁) j absent_edge) ≡ false
        none j h =
            let c : j < k + 1 = omega (arith, h, length-tab (k + 1) (edge_in es₁)) in
            rw (get_or-tab (k + 1) (edge_in es₁) j absent_edge c) (by_test (has_ends y bottom (edge_in es₁ j)) (λ t.
            absurd (old-ends (edge_in es₁ j) (mem-tab (k + 1) (edge_in es₁) j c) (joins-ends y bottom (edge_in es₁ j) t).0))
            (λ t. t))

    pub link-two : LinksDone true y bottom s f k es (k + 2) (put_edge es₁ (k + 1) y bottom s f)
    unfolding add_or_update_edges edge_data
    link-two = record {
      is = ap (λ (x : ℕ). edges_in x (put_edge es₁ (k + 1) y bottom s f)) two ∙ second_is ∙ ap (add_or_update_edge y bottom (carries s f)) first-is;
      old = λ j b. put_other es₁ (k + 1) y bottom s f j (λ q. omega arith) ∙ put_other es k (y + 1) y 1 (bit (flag_is_ref f)) j (λ q. omega arith);
    }
      where
        two : k + 2 ≡ k + 1 + 1
        two = omega arith

-- what the code leaves with a prefix, and without
pub links-two : {prefix : Bool} {y bottom k s f g : ℕ} {es es₁ es₂ : List ℕ} → Linkable y bottom k es → prefix ≡ true → g ≡ bit (flag_is_ref f)
    → es₁ ≡ put_edge es k (y + 1) y 1 g → es₂ ≡ put_edge es₁ (k + 1) y bottom s f → LinksDone prefix y bottom s f k es (k + 2) es₂
links-two {s = s} {f = f} L t q a b = rw (t, b, a, q) (link-two L s f)

pub links-one : {prefix : Bool} {y bottom k s f : ℕ} {es es₁ : List ℕ} → Linkable y bottom k es → prefix ≡ false → es₁
    ≡ put_edge es k y bottom s f → LinksDone prefix y bottom s f k es (k + 1) es₁
links-one {s = s} {f = f} L t a = rw (t, a) (link-one L s f)

-- ---- one predecessor

entry-low : (prefix : Bool) (y : ℕ) → (y ≤ entry_number prefix y) × (entry_number prefix y ≤ y + 1)
entry-low true y = (omega arith, omega arith)
entry-low false y = (omega arith, omega arith)

-- the links end at the bottom or at the suffix vertex, so none enters the entry_number, and all ends are new or the bottom
links-to : (prefix : Bool) (y bottom : ℕ) (d e : Edge) → bottom < y → Memᴰ e (link_edges prefix y bottom d)
    → (e.from < entry_number prefix y + 1) × (e.to < entry_number prefix y + 1) × (e.to ≡ entry_number prefix y → ⊥)
links-to true y bottom d e h m = ⊎_elim
    (λ (i : e ≡ from_prefix y d). (
      omega (arith, ap (λ (x : Edge). x.from) i),
      omega (arith, ap (λ (x : Edge). x.to) i),
      λ q.
          omega (arith, q, ap (λ (x : Edge). x.to) i),
    ))
    (λ n. ⊎_elim
    (λ (i : e ≡ to_bottom y bottom d). (
      omega (arith, ap (λ (x : Edge). x.from) i),
      omega (arith, ap (λ (x : Edge). x.to) i),
      λ q.
          omega (arith, q, ap (λ (x : Edge). x.to) i),
    ))
    (λ o. absurd (Memᴰ.not-nil o)) (Memᴰ.cases_cons n))
    (Memᴰ.cases_cons m)
links-to false y bottom d e h m = ⊎_elim
    (λ (i : e ≡ to_bottom y bottom d). (
      omega (arith, ap (λ (x : Edge). x.from) i),
      omega (arith, ap (λ (x : Edge). x.to) i),
      λ q.
          omega (arith, q, ap (λ (x : Edge). x.to) i),
    ))
    (λ o. absurd (Memᴰ.not-nil o)) (Memᴰ.cases_cons m)

-- they add an edge at least
links-longer : (prefix : Bool) (y bottom k : ℕ) (es : List ℕ) (s f : ℕ) → EndsBelow y k es → 4 * k + 4 ≤ length es → k
    + 1 ≤ length (add_or_update_edges (link_edges prefix y bottom (edge y bottom s f)) (edges_in k es))
unfolding add_or_update_edges edge_data
links-longer true y bottom k es s f E r =
    let d : EdgeData = record { support = 1; is_ref = flag_is_ref f; capped = false } in
    omega (
      arith,
      ap length (push-new (y + 1) y 1 (bit (flag_is_ref f)) E r (λ x z a b q w. omega arith)),
      length-tab (k + 1) (edge_in (put_edge es k (y + 1) y 1 (bit (flag_is_ref f)))),
      ap (λ (c : EdgeData). length (add_or_update_edge (y + 1) y c (edges_in k es))) (plain-is (flag_is_ref f)),
      raise-longer y bottom (carries s f) (add_or_update_edge (y + 1) y d (edges_in k es)),
    )
links-longer false y bottom k es s f E r = omega (
  arith,
  ap length (push-new y bottom s f E r (λ x z a b q w. omega arith)),
  length-tab (k + 1) (edge_in (put_edge es k y bottom s f)),
)

module _ {prefix : Bool} {y bottom m n : ℕ} {es heads nexts : List ℕ} {v k : ℕ} {mp : List ℕ} (B : BlockReady prefix y bottom m n es heads nexts v k mp) where
  abbrev out : Edge
  out = edge_in es (get_or heads (2 * v) 0)

  abbrev links : List Edge
  links = link_edges prefix y bottom out

  both_is : add_or_update_edges (block_edges y bottom prefix heads m es v) (edges_in k es)
      ≡ add_or_update_edges (redirected_all 1 (entry_number prefix y) m es v) (add_or_update_edges links (edges_in k es))
  both_is = raise_all-append links (redirected_all 1 (entry_number prefix y) m es v) (edges_in k es)

  pub block-link : Linkable y bottom k es
  block-link = record { ends = B.ends; below = omega (arith, B.bottom-below, B.new); room = omega (arith, more, B.roomy.room); small = B.small }
    where
      all : length (add_or_update_edges links (edges_in k es)) ≤ length (add_or_update_edges (block_edges y bottom prefix heads m es v) (edges_in k es))
      all = omega (arith, ap length both_is, raise_all-longer (redirected_all 1 (entry_number prefix y) m es v) (add_or_update_edges links (edges_in k es)))

      one : 4 * k + 4 ≤ length es
      one = omega (arith, all, B.roomy.room, raise_all-longer links (edges_in k es), length-tab k (edge_in es))

      more : k + 1 ≤ length (add_or_update_edges (block_edges y bottom prefix heads m es v) (edges_in k es))
      more = omega (
        arith,
        all,
        links-longer prefix y bottom k es (get_or es (4 * get_or heads (2 * v) 0 + 2) 0)
            (get_or es (4 * get_or heads (2 * v) 0 + 3) 0) B.ends one,
      )

  module _ {s f j : ℕ} {es₁ : List ℕ} (qs : s ≡ get_or es (4 * get_or heads (2 * v) 0 + 2) 0) (qf : f
      ≡ get_or es (4 * get_or heads (2 * v) 0 + 3) 0) (D : LinksDone prefix y bottom s f k es j es₁) where
    links-are : edges_in j es₁ ≡ add_or_update_edges links (edges_in k es)
    links-are = D.is ∙ (λ i. add_or_update_edges (link_edges prefix y bottom (edge y bottom (qs i) (qf i))) (edges_in k es))

    longer : k ≤ j
    longer = omega (arith, ap length links-are, length-tab j (edge_in es₁), length-tab k (edge_in es), raise_all-longer links (edges_in k es))

    old₁ : (i : ℕ) → i < m → edge_in es₁ i ≡ edge_in es i
    old₁ i b = D.old i (omega (arith, B.behind))

    last-is : add_or_update_edges (redirected_all 1 (entry_number prefix y) m es₁ v) (edges_in j es₁)
        ≡ add_or_update_edges (block_edges y bottom prefix heads m es v) (edges_in k es)
    last-is = (λ i. add_or_update_edges (all_same m es es₁ old₁ 1 (entry_number prefix y) v (omega arith) i) (links-are i)) ∙ sym both_is

    not_entry : (i : ℕ) → i < j → edge_end 1 es₁ i ≡ entry_number prefix y → ⊥
    not_entry i b q = raise_all-ends (λ x z. z ≡ entry_number prefix y → ⊥) links (edges_in k es)
        (λ e o r. omega (arith, r, (ends-mem B.ends e o).1, (entry-low prefix y).0))
        (λ e o. (links-to prefix y bottom out e (omega (arith, B.bottom-below, B.new)) o).2)
        (edge_in es₁ i) (rw links-are at (mem-tab j (edge_in es₁) i b)) q

    pub block-redirectable : {into : ℕ} → into ≡ entry_number prefix y → length es₁ ≡ length es → Redirectable 1 into n j m j es₁ heads nexts mp v
    block-redirectable e l = rw e (record {
      off-low = omega arith;
      below = B.below;
      new = omega (arith, B.new, (entry-low prefix y).0);
      behind = omega (arith, B.behind, longer);
      indexed = indexed-same m es es₁ old₁ l B.indexed;
      marks = marks-start 1 (entry_number prefix y) n j es₁ mp (omega arith) B.marks.room (λ x b. omega (arith, B.marks.most x b, longer)) not_entry;
      room = omega (arith, ap length last-is, B.roomy.room, l);
      small = omega (arith, ap length last-is, B.roomy.small);
    })

    pub block-done : {into r : ℕ} {es₂ mp₂ : List ℕ} → into ≡ entry_number prefix y → Redirected 1 into n j m j es₁ v r es₂ mp₂
        → BlockDone prefix y bottom m n es heads v k r es₂ mp₂
    block-done e D₁ = let R = rw e at D₁ in record {
      is = R.is ∙ last-is;
      old = λ i b. R.old i b ∙ old₁ i b;
      marks = record { room = R.marks.room; most = R.marks.most };
    }

-- ---- all predecessors

pub number_more : (vs nodes : List ℕ) (s n i : ℕ) → suffix_number vs nodes s n (i + 1) ≡ entry_number (has_prefix vs s (get_or nodes i 0)) (suffix_number vs nodes s n i) + 1
unfolding suffix_number
number_more vs nodes s n i = ap (suffix_number vs nodes s n) (add-one i)

pub number-low : (vs nodes : List ℕ) (s n i : ℕ) → n ≤ suffix_number vs nodes s n i
unfolding suffix_number
number-low vs nodes s n zero = omega arith
number-low vs nodes s n (suc i) = omega (arith, number-low vs nodes s n i, (entry-low (has_prefix vs s (get_or nodes i 0)) (suffix_number vs nodes s n i)).0)

number_up : (vs nodes : List ℕ) (s n i d : ℕ) → suffix_number vs nodes s n i ≤ suffix_number vs nodes s n (i + d)
unfolding suffix_number
number_up vs nodes s n i zero = rw (add-zero i) (omega arith)
number_up vs nodes s n i (suc d) =
    let q : i + suc d ≡ suc (i + d) = omega arith in
    rw q (omega (arith, number_up vs nodes s n i d, (entry-low (has_prefix vs s (get_or nodes (i + d) 0)) (suffix_number vs nodes s n (i + d))).0))

pub number-most : (vs nodes : List ℕ) (s n i c : ℕ) → i ≤ c → suffix_number vs nodes s n i ≤ suffix_number vs nodes s n c
number-most vs nodes s n i c h = let q : i + (c - i) ≡ c = omega arith in omega (arith, number_up vs nodes s n i (c - i), ap (suffix_number vs nodes s n) q)

-- fewer lists of new edges make no more edges
lists-most : (f : ℕ → List Edge) (i d : ℕ) (l : List Edge)
    → length (add_or_update_edges (concat (tab i f)) l) ≤ length (add_or_update_edges (concat (tab (i + d) f)) l)
lists-most f i d l =
    let q = ap concat (tab-append i d f) ∙ concat-append (tab i f) (tab d (λ (j : ℕ). f (i + j))) in
    let r = concat (tab d (λ (j : ℕ). f (i + j))) in
    omega (
      arith,
      ap (λ (x : List Edge). length (add_or_update_edges x l)) q,
      ap length (raise_all-append (concat (tab i f)) r l),
      raise_all-longer r (add_or_update_edges (concat (tab i f)) l),
    )

pub record AddingEdges (m n s : ℕ) (es₀ mp₀ heads vs nodes : List ℕ) (c bottom y k : ℕ) (es mp : List ℕ) (i : ℕ) : Type 0 where
  pub high : i ≤ c
  pub len : length es ≡ length es₀
  pub mp-len : length mp ≡ length mp₀
  pub number : y ≡ suffix_number vs nodes s n i
  pub is : edges_in k es ≡ add_or_update_edges (suffix_edges heads m n s es₀ vs nodes bottom i) (edges_in m es₀)
  pub old : (j : ℕ) → j < m → edge_in es j ≡ edge_in es₀ j
  pub ends : EndsBelow y k es
  pub marks : MarksLow n k mp

module _ {m n s : ℕ} {es₀ heads nexts vs nodes : List ℕ} {c bottom : ℕ} {mp₀ : List ℕ} (F : SplitEdgesReady m n s es₀ heads nexts vs nodes c bottom mp₀) where
  abbrev list_of : ℕ → List Edge
  list_of = node_edges heads m n s es₀ vs nodes bottom

  pub first_small : n < 4294967296
  first_small = omega (arith, F.small, number-low vs nodes s n c)

  pub adding-start : {mp : List ℕ} → length mp ≡ length mp₀ → ((x : ℕ) → x < n → get_or mp x 0 ≡ 0) → AddingEdges m n s es₀ mp heads vs nodes c bottom n m es₀ mp 0
  unfolding suffix_number concat
  adding-start {mp} l z = record {
    high = omega arith;
    len = refl;
    mp-len = refl;
    number = refl;
    is = sym (ap (λ (x : List (List Edge)). add_or_update_edges (concat x) (edges_in m es₀)) (tab-zero list_of) ∙ raise_all-none (edges_in m es₀));
    old = λ j b. refl;
    ends = F.indexed.ends;
    marks = record { room = omega (arith, l, F.mp-room); most = λ x b. omega (arith, z x b) };
  }

  module _ {mp₁ : List ℕ} {y k : ℕ} {es mp : List ℕ} {i : ℕ} (A : AddingEdges m n s es₀ mp₁ heads vs nodes c bottom y k es mp i) where
    grown : m ≤ k
    grown = omega (
      arith,
      ap length A.is,
      length-tab k (edge_in es),
      length-tab m (edge_in es₀),
      raise_all-longer (suffix_edges heads m n s es₀ vs nodes bottom i) (edges_in m es₀),
    )

    module _ (h : i < c) {prefix : Bool} (q : prefix ≡ has_prefix vs s (get_or nodes i 0)) where
      abbrev v : ℕ
      v = get_or nodes i 0

      block-is : block_edges y bottom prefix heads m es v ≡ list_of i
      block-is =
          (λ j. link_edges prefix y bottom (A.old (get_or heads (2 * v) 0) (F.outs i h) j) ++ all_same m es₀ es A.old 1 (entry_number prefix y) v (omega arith) j)
          ∙ (λ j. block_edges (A.number j) bottom (q j) heads m es₀ v)

      next-is : add_or_update_edges (block_edges y bottom prefix heads m es v) (edges_in k es)
          ≡ add_or_update_edges (suffix_edges heads m n s es₀ vs nodes bottom (i + 1)) (edges_in m es₀)
      next-is =
          (λ j. add_or_update_edges (block-is j) (A.is j))
          ∙ sym (raise_all-append (concat (tab i list_of)) (list_of i) (edges_in m es₀))
          ∙ ap (λ (x : List Edge). add_or_update_edges x (edges_in m es₀)) (sym (ap concat (tab-snoc i list_of) ∙ concat-snoc (tab i list_of) (list_of i)))

      next-most : length (add_or_update_edges (block_edges y bottom prefix heads m es v) (edges_in k es)) ≤ length
          (add_or_update_edges (suffix_edges heads m n s es₀ vs nodes bottom c) (edges_in m es₀))
      next-most =
          let z : i + 1 + (c - (i + 1)) ≡ c = omega arith in
          omega (
            arith,
            ap length next-is,
            lists-most list_of (i + 1) (c - (i + 1)) (edges_in m es₀),
            ap (λ (x : ℕ). length (add_or_update_edges (concat (tab x list_of)) (edges_in m es₀))) z,
          )

      number_is : entry_number prefix y + 1 ≡ suffix_number vs nodes s n (i + 1)
      number_is = (λ j. entry_number (q j) (A.number j) + 1) ∙ sym (number_more vs nodes s n i)

      pub next_small : entry_number prefix y + 1 < 4294967296
      next_small = omega (arith, number_is, number-most vs nodes s n (i + 1) c (omega arith), F.small)

      pub adding-block : BlockReady prefix y bottom m n es heads nexts v k mp
      adding-block = record {
        indexed = indexed-same m es₀ es A.old A.len F.indexed;
        below = F.prevs.at i h;
        out = F.outs i h;
        bottom-below = F.bottom-below;
        new = omega (arith, A.number, number-low vs nodes s n i);
        behind = grown;
        ends = A.ends;
        marks = A.marks;
        roomy = record { room = omega (arith, next-most, F.roomy.room, A.len); small = omega (arith, next-most, F.roomy.small) };
        small = omega (arith, next_small, (entry-low prefix y).0);
      }

      pub adding-more : {k' : ℕ} {es' mp' : List ℕ} → BlockDone prefix y bottom m n es heads v k k' es' mp' → length es' ≡ length es → length mp' ≡ length mp
          → AddingEdges m n s es₀ mp₁ heads vs nodes c bottom (entry_number prefix y + 1) k' es' mp' (i + 1)
      adding-more {k'} {es'} {mp'} D a b = record {
        high = omega arith;
        len = a ∙ A.len;
        mp-len = b ∙ A.mp-len;
        number = number_is;
        is = D.is ∙ next-is;
        old = λ j d. D.old j d ∙ A.old j d;
        ends = mem-ends (entry_number prefix y + 1) k' es' (λ e o. raise_all-ends (λ x z. (x < entry_number prefix y + 1) × (z < entry_number prefix y + 1))
            (block_edges y bottom prefix heads m es v) (edges_in k es) old-ends new-ends e (rw D.is at o));
        marks = D.marks;
      }
        where
          old-ends : (e : Edge) → Memᴰ e (edges_in k es) → (e.from < entry_number prefix y + 1) × (e.to < entry_number prefix y + 1)
          old-ends e o = let z = ends-mem A.ends e o in (omega (arith, z.0, (entry-low prefix y).0), omega (arith, z.1, (entry-low prefix y).0))

          new-ends : (e : Edge) → Memᴰ e (block_edges y bottom prefix heads m es v) → (e.from < entry_number prefix y + 1) × (e.to < entry_number prefix y + 1)
          new-ends e o = ⊎_elim
              (λ l. let z = links-to prefix y bottom (edge_in es (get_or heads (2 * v) 0)) e
              (omega (arith, F.bottom-below, A.number, number-low vs nodes s n i)) l in (z.0, z.1))
              (λ l. let z = into-ends (indexed-same m es₀ es A.old A.len F.indexed).ends (entry_number prefix y) v e l in
              (omega (arith, z.0, (entry-low prefix y).0, A.number, number-low vs nodes s n i), omega (arith, z.1)))
              (Memᴰ.append_cases (link_edges prefix y bottom (edge_in es (get_or heads (2 * v) 0))) o)

    pub adding-end : c ≤ i → SplitEdgesDone m n s es₀ heads vs nodes c bottom k es
    adding-end h = let z : i ≡ c = omega (arith, A.high) in
        record { is = A.is ∙ ap (λ (x : ℕ). add_or_update_edges (suffix_edges heads m n s es₀ vs nodes bottom x) (edges_in m es₀)) z }

-- the number that the code counts on
pub entries : {m n s : ℕ} {es₀ mp₀ heads vs nodes : List ℕ} {c bottom y x k : ℕ} {es mp : List ℕ} {i : ℕ} → x ≡ y
    → AddingEdges m n s es₀ mp₀ heads vs nodes c bottom y k es mp i → AddingEdges m n s es₀ mp₀ heads vs nodes c bottom x k es mp i
entries q A = rw q A
