-- Sequences written one behind the other. Assumes nothing.
use mathlib.Core.Path.{◌≡◌, refl, sym, ap, ◌∙◌}
use mathlib.Core.Option.{Option, none, some}
use mathlib.Core.List.{List, [], ◌∷◌, ◌++◌, map, map-append}
use Prim.Native.Nat.{ℕ, zero, suc, ◌+◌, ◌*◌, ◌≤◌, ◌<◌}
use native.Mathlib.Numerals.{add-one}
use native.Mathlib.Omega.{arith}
use lib.ListN.{length, get_or, take, drop, length-append}
use borrow.Author.Tests.{le-leb, lt-leb}
use lib.Seq.{get_or-take, length-take-le, paste, take_at, drop-append-add, drop-drop}
use Rattle.defs.specs.Lists.{concat}
use Rattle.laws.proofs.ListLaws.{by_order}
use Rattle.tabs.proofs.Tabs.{tab-snoc, tab-zero}
use Rattle.tabs.proofs.SumTabs.{sum-none, sum_more, sum_below, concat-snoc}
use Rattle.store.specs.Store.{seq_in, nums_in}
use Rattle.store.proofs.VertexLaws.{part-long}
use Rattle.spell.specs.Spell.{Puttable, SequencePut, spelled_in, Listed, BytesWritten, Answered, count_of, count_in, with_front, Told}
use Rattle.store.specs.Store.{nodes_length}
use Rattle.std.specs.Prelude.{Some, None}
use Rattle.std.specs.Prelude as std

-- ---- one sequence

pub put_is : {vs p : List ℕ} {v : ℕ} {out out' : List ℕ} {at start len : ℕ} → start ≡ get_or vs (2 * v) 0 → len ≡ get_or vs (2 * v + 1) 0 → out'
    ≡ paste out at (drop start p) len → SequencePut vs p v out at (at + len) out'
put_is {vs} {p} {v} {out} {out'} {at} s l e = record { end = omega arith; is = e ∙ (λ j. paste out at (drop (s j) p) (l j)) }

-- ---- the first c nodes, one by one

front_below : (nodes : List ℕ) {c i : ℕ} → c ≤ length nodes → i < length (take c nodes) → i < c
front_below nodes {c} r h = omega (arith, length-take-le c nodes r)

front-node : (nodes : List ℕ) {c i : ℕ} → c ≤ length nodes → i < length (take c nodes) → get_or (take c nodes) i 0 ≡ get_or nodes i 0
front-node nodes {c} {i} r h = get_or-take c nodes i 0 (front_below nodes r h)

-- ---- the lengths

pub record AddingNodes (vs nodes : List ℕ) (c len i : ℕ) : Type 0 where
  pub is : len ≡ nodes_length vs nodes i

pub adding-start : (vs nodes : List ℕ) (c : ℕ) → AddingNodes vs nodes c 0 0
adding-start vs nodes c = record { is = sym (sum-none (λ (i : ℕ). get_or vs (2 * get_or nodes i 0 + 1) 0)) }

module _ {vs p nodes : List ℕ} {c : ℕ} (L : Listed vs p nodes c) {len i l : ℕ} (A : AddingNodes vs nodes c len i) (h : i < length (take c nodes))
    (q : l ≡ get_or vs (2 * get_or (take c nodes) i 0 + 1) 0) where
  node-len : l ≡ get_or vs (2 * get_or nodes i 0 + 1) 0
  node-len = q ∙ ap (λ (v : ℕ). get_or vs (2 * v + 1) 0) (front-node nodes L.nodes-room h)

  pub adding-small : len + l ≤ length p
  adding-small =
      omega (arith, A.is, L.total, node-len, sum_below c i (λ (i : ℕ). get_or vs (2 * get_or nodes i 0 + 1) 0) (front_below nodes L.nodes-room h))

  pub adding-more : AddingNodes vs nodes c (len + l) (i + 1)
  adding-more = record { is = omega (arith, A.is, node-len, sum_more i (λ (i : ℕ). get_or vs (2 * get_or nodes i 0 + 1) 0)) }

pub adding-end : {vs p nodes : List ℕ} {c len i : ℕ} → Listed vs p nodes c → AddingNodes vs nodes c len i → i ≤ length (take c nodes) → length
    (take c nodes) ≤ i → len ≡ nodes_length vs nodes c
adding-end {vs} {p} {nodes} {c} {len} {i} L A b h =
    let q : i ≡ c = omega (arith, length-take-le c nodes L.nodes-room) in A.is ∙ ap (nodes_length vs nodes) q

-- ---- writing

pub record Spelling (vs p nodes : List ℕ) (c : ℕ) (out₀ out : List ℕ) (at i : ℕ) : Type 0 where
  pub end : at ≡ nodes_length vs nodes i
  pub size : length (spelled_in vs p nodes i) ≡ at
  pub len : length out ≡ length out₀
  pub is : out ≡ spelled_in vs p nodes i ++ drop at out₀

spelled-more : (vs p nodes : List ℕ) (i : ℕ) → spelled_in vs p nodes (i + 1) ≡ spelled_in vs p nodes i ++ seq_in vs p (get_or nodes i 0)
spelled-more vs p nodes i =
    ap (λ (l : List ℕ). concat (map (seq_in vs p) l)) (tab-snoc i (λ (j : ℕ). get_or nodes j 0))
    ∙ ap concat (map-append (seq_in vs p) (nums_in i nodes) (get_or nodes i 0 ∷ []))
    ∙ concat-snoc (map (seq_in vs p) (nums_in i nodes)) (seq_in vs p (get_or nodes i 0))

spelled_none : (vs p nodes : List ℕ) → spelled_in vs p nodes 0 ≡ []
unfolding concat
spelled_none vs p nodes = ap (λ (l : List ℕ). concat (map (seq_in vs p) l)) (tab-zero (λ (j : ℕ). get_or nodes j 0))

pub spelling-start : (vs p nodes : List ℕ) (c : ℕ) (out₀ : List ℕ) → Spelling vs p nodes c out₀ out₀ 0 0
spelling-start vs p nodes c out₀ = record {
  end = sym (sum-none (λ (i : ℕ). get_or vs (2 * get_or nodes i 0 + 1) 0));
  size = ap length (spelled_none vs p nodes);
  len = refl;
  is = ap (λ (l : List ℕ). l ++ out₀) (sym (spelled_none vs p nodes));
}

-- a paste behind d, where the rest is as it was
paste-behind : (d out₀ s : List ℕ) (at n : ℕ) → length d ≡ at → paste (d ++ drop at out₀) at s n ≡ (d ++ take n s) ++ drop (at + n) out₀
paste-behind d out₀ s at n q = λ j. (take_at d (drop at out₀) at q j ++ take n s) ++ rest j
  where
    rest : drop (at + n) (d ++ drop at out₀) ≡ drop (at + n) out₀
    rest = ap (λ (x : ℕ). drop (x + n) (d ++ drop at out₀)) (sym q) ∙ drop-append-add d (drop at out₀) n ∙ drop-drop n at out₀

module _ {vs p nodes : List ℕ} {c : ℕ} {out₀ : List ℕ} (L : Listed vs p nodes c) (room : nodes_length vs nodes c ≤ length out₀) {out :
    List ℕ} {at i : ℕ} (S : Spelling vs p nodes c out₀ out at i) where
  pub spelling-puttable : i < length (take c nodes) → Puttable vs p (get_or (take c nodes) i 0) out at
  spelling-puttable h = let b : i < c = front_below nodes L.nodes-room h in rw (front-node nodes L.nodes-room h) (record {
    vs-room = L.vs-room i b;
    within = L.within i b;
    room = omega (arith, S.end, S.len, sum_below c i (λ (i : ℕ). get_or vs (2 * get_or nodes i 0 + 1) 0) b);
  })

  node-put : {out' : List ℕ} {at' : ℕ} → i < c → SequencePut vs p (get_or nodes i 0) out at at' out' → length out' ≡ length out
      → Spelling vs p nodes c out₀ out' at' (i + 1)
  node-put {out'} {at'} h P q = record {
    end = omega (arith, P.end, S.end, sum_more i (λ (i : ℕ). get_or vs (2 * get_or nodes i 0 + 1) 0));
    size = ap length (spelled-more vs p nodes i) ∙ length-append (spelled_in vs p nodes i) (seq_in vs p (get_or nodes i 0))
        ∙ omega (arith, S.size, P.end, part-long p (get_or vs (2 * get_or nodes i 0) 0) (get_or vs (2 * get_or nodes i 0 + 1) 0) (L.within i h));
    len = q ∙ S.len;
    is = P.is ∙ ap (λ (l : List ℕ). paste l at (drop (get_or vs (2 * get_or nodes i 0) 0) p) (get_or vs (2 * get_or nodes i 0 + 1) 0)) S.is
        ∙ paste-behind (spelled_in vs p nodes i) out₀ (drop (get_or vs (2 * get_or nodes i 0) 0) p) at (get_or vs (2 * get_or nodes i 0 + 1) 0) S.size
        ∙ (λ j. sym (spelled-more vs p nodes i) j ++ drop (sym P.end j) out₀);
  }

  pub spelling-more : {out' : List ℕ} {at' : ℕ} → i < length (take c nodes) → SequencePut vs p (get_or (take c nodes) i 0) out at at' out'
      → length out' ≡ length out → Spelling vs p nodes c out₀ out' at' (i + 1)
  spelling-more h P q = node-put (front_below nodes L.nodes-room h) (rw (front-node nodes L.nodes-room h) at P) q

  pub spelling-end : i ≤ length (take c nodes) → length (take c nodes) ≤ i → BytesWritten (spelled_in vs p nodes c) out₀ at out
  spelling-end b h =
      let q : i ≡ c = omega (arith, length-take-le c nodes L.nodes-room) in
      record {
        size = sym S.size ∙ ap (λ (x : ℕ). length (spelled_in vs p nodes x)) q;
        is = S.is ∙ ap (λ (x : ℕ). spelled_in vs p nodes x ++ drop at out₀) q;
      }

-- ---- the answer

-- the sum of the lengths is the length of the whole
spelled-long : {vs p nodes : List ℕ} {c : ℕ} → Listed vs p nodes c → (i : ℕ) → i ≤ c → nodes_length vs nodes i ≡ length (spelled_in vs p nodes i)
spelled-long {vs} {p} {nodes} L zero h = sum-none (λ (i : ℕ). get_or vs (2 * get_or nodes i 0 + 1) 0) ∙ sym (ap length (spelled_none vs p nodes))
spelled-long {vs} {p} {nodes} L (suc i) h =
    ap (nodes_length vs nodes) (sym (add-one i)) ∙ sum_more i (λ (i : ℕ). get_or vs (2 * get_or nodes i 0 + 1) 0)
    ∙ (λ j. spelled-long L i (omega arith) j + sym (part-long p (get_or vs (2 * get_or nodes i 0) 0) (get_or vs (2 * get_or nodes i 0 + 1) 0)
    (L.within i (omega arith))) j)
    ∙ sym (length-append (spelled_in vs p nodes i) (seq_in vs p (get_or nodes i 0)))
    ∙ sym (ap length (ap (spelled_in vs p nodes) (sym (add-one i)) ∙ spelled-more vs p nodes i))

pub too_long : {vs p nodes : List ℕ} {c len : ℕ} (out : List ℕ) → Listed vs p nodes c → len ≡ nodes_length vs nodes c → length out < len
    → Answered (spelled_in vs p nodes c) out len out
too_long {c = c} out L q h = record { size = q ∙ spelled-long L c (omega arith); is = λ b. absurd (omega arith); kept = λ b. refl }

pub written-whole : {s out out' : List ℕ} {len r : ℕ} → len ≤ length out → len ≡ length s → BytesWritten s out r out' → Answered s out r out'
written-whole h q W = record { size = W.size; is = λ b. W.is; kept = λ b. absurd (omega (arith, W.size)) }

pub listed-long : {vs p nodes : List ℕ} {c len : ℕ} → Listed vs p nodes c → len ≡ nodes_length vs nodes c → len ≡ length (spelled_in vs p nodes c)
listed-long {c = c} L q = q ∙ spelled-long L c (omega arith)

-- ---- bytes that are there or not

no-count : (o : Option (List ℕ)) → count_in o ≡ none → o ≡ none
unfolding count_in
no-count none q = refl
no-count (some s) q = absurd (let z : ◌≡◌ {A = ℕ} 0 1 = cc in omega arith)

count-of : (o : Option (List ℕ)) (n : ℕ) → count_in o ≡ some n → (s : List ℕ) × (o ≡ some s) × (n ≡ length s)
unfolding count_in
count-of none n q = absurd (let z : ◌≡◌ {A = ℕ} 0 1 = cc in omega arith)
count-of (some s) n q = (s, refl, cc)

front-none : (out : List ℕ) → with_front none out ≡ out
unfolding with_front
front-none out = refl

front_fits : (s out : List ℕ) → length s ≤ length out → with_front (some s) out ≡ s ++ drop (length s) out
unfolding with_front
front_fits s out l = rw (le-leb (length s) (length out) l)

front-short : (s out : List ℕ) → length out < length s → with_front (some s) out ≡ out
unfolding with_front
front-short s out l = rw (lt-leb (length s) (length out) l)

pub told_none : {o : Option (List ℕ)} (out : List ℕ) → o ≡ none → Told o out None out
unfolding count_in
told_none out q = record { is = sym (ap count_in q); written = sym (ap (λ (x : Option (List ℕ)). with_front x out) q ∙ front-none out) }

pub told-some : {o : Option (List ℕ)} {s out : List ℕ} {len : ℕ} {out' : List ℕ} → o ≡ some s → Answered s out len out'
    → Told o out (Some len) out'
unfolding count_in
told-some {s = s} {out} {len} {out'} q A = record {
  is = ap some A.size ∙ sym (ap count_in q);
  written = front ∙ sym (ap (λ (x : Option (List ℕ)). with_front x out) q);
}
  where
    front : out' ≡ with_front (some s) out
    front = by_order len (length out)
        (λ l. A.is l ∙ ap (λ (n : ℕ). s ++ drop n out) A.size ∙ sym (front_fits s out (omega (arith, A.size))))
        (λ l. A.kept l ∙ sym (front-short s out (omega (arith, A.size))))

-- what an answer says of the definition
module _ {o : Option (List ℕ)} {out : List ℕ} {r : std.Option ℕ} {out' : List ℕ} (T : Told o out r out') where
  pub none_told : r ≡ None → (o ≡ none) × (out' ≡ out)
  none_told q =
      let z = no-count o (sym T.is ∙ ap count_of q) in
      (z, T.written ∙ ap (λ (x : Option (List ℕ)). with_front x out) z ∙ front-none out)

  pub some-told : {n : ℕ} → r ≡ Some n → (s : List ℕ) × (o ≡ some s) × Answered s out n out'
  some-told {n} q =
      let z = count-of o n (sym T.is ∙ ap count_of q) in
      let front : out' ≡ with_front (some z.0) out = T.written ∙ ap (λ (x : Option (List ℕ)). with_front x out) z.1 in (
        z.0,
        z.1,
        record {
          size = z.2;
          is = λ l. front ∙ front_fits z.0 out (omega (arith, z.2)) ∙ ap (λ (k : ℕ). z.0 ++ drop k out) (sym z.2);
          kept = λ l. front ∙ front-short z.0 out (omega (arith, z.2));
        },
      )

pub answered-as : {s t out : List ℕ} {len : ℕ} {out' : List ℕ} → s ≡ t → Answered s out len out' → Answered t out len out'
answered-as q A = rw q at A
