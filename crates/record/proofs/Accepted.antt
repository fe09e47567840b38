-- What is known of a record that none of the refusals 1 to 5 meets.
-- Assumes nothing.
use Prim.Native.Nat.{ℕ, zero, suc, ◌≤◌}
use mathlib.Core.Path.{◌≡◌, refl, sym, ap, ◌∙◌}
use mathlib.Core.Bool.{true, false, not, ◌&&◌}
use mathlib.Core.List.{List}
use native.Mathlib.Omega.{arith}
use lib.Dec.{eqb, ltb, leb}
use lib.ListN.{length, take}
use borrow.Author.Tests.{ltb-false, leb-true, leb-false, eqb-true, eq-eqb, not-false}
use Rattle.defs.specs.Lists.{same_list}
use Rattle.defs.specs.Forms.{mark, form_of, lengths_at, limits}
use Rattle.defs.specs.Record.{kind_of, status_of, k_of, vertices_of, edges_of, bytes_of, whole_of, edge_at, flag_at}
use Rattle.defs.specs.Refusals.{Takes, kmer_only, sequence_only, both_kinds, refusal_of, layout_causes, takes_kind, other_length, wrong_mark, past_limit, bad_edge}
use Rattle.laws.proofs.ListLaws.{or-false, same_list-eq}
use Rattle.kmer.specs.declared.KmerSize.{KmerSize}
use Rattle.std.specs.Prelude.{Result, Ok, Err}
use Rattle.refusal.specs.Refusals.{number_of_refusal, refused_by}
use Rattle.refusal.specs.declared.Refusal.{Refusal}
use Rattle.record.specs.Layout.{other_kmer_length, GoodEdge, WellFormed, LayoutOf}
use Rattle.record.proofs.TurnLaws.{any_false}
use Rattle.record.proofs.Tests.{no-cause, any-bad-is, offsets-agree, lengths-offset, edges_offset, bytes-offset}
use Rattle.record.proofs.Tests.{whole_is, sum_is, kmers-are}

kind-most : (t : Takes) (n : ℕ) → takes_kind t n ≡ true → n ≤ 1
unfolding takes_kind
kind-most kmer_only n h = omega (arith, eqb-true n 0 h)
kind-most sequence_only n h = omega (arith, eqb-true n 1 h)
kind-most both_kinds n h = leb-true n 1 h

module _ (t : Takes) (bs : List ℕ) (h : wrong_mark t bs ≡ false) where
  mark-parts : (not (same_list (take 4 bs) (mark (form_of bs))) ≡ false) × (not (takes_kind t (kind_of bs)) ≡ false) × (ltb 2 (status_of bs) ≡ false)
      × ((eqb (kind_of bs) 0 && not (eqb (status_of bs) 0)) ≡ false)
  unfolding wrong_mark
  mark-parts =
      let a = or-false (not (same_list (take 4 bs) (mark (form_of bs)))) _ h in
      let b = or-false (not (takes_kind t (kind_of bs))) _ a.1 in
      let c = or-false (ltb 2 (status_of bs)) _ b.1 in
      (a.0, b.0, c.0, c.1)

  is-marked : take 4 bs ≡ mark (form_of bs)
  is-marked = same_list-eq (take 4 bs) (mark (form_of bs)) (not-false _ mark-parts.0)

  kind-low : kind_of bs ≤ 1
  kind-low = kind-most t (kind_of bs) (not-false _ mark-parts.1)

  status-low : status_of bs ≤ 2
  status-low = ltb-false 2 (status_of bs) mark-parts.2

  status-none : kind_of bs ≡ 0 → status_of bs ≡ 0
  status-none z = eqb-true _ _ (not-false _ (rw (eq-eqb (kind_of bs) 0 z) at mark-parts.3))

module _ (bs : List ℕ) (h : past_limit bs ≡ false) where
  limit-parts : (ltb (k_of bs) 2 ≡ false) × (ltb 128 (k_of bs) ≡ false) × (ltb (limits (form_of bs)).vertices (vertices_of bs) ≡ false) × (ltb (limits (form_of bs)).edges (edges_of bs) ≡ false)
      × ((eqb (kind_of bs) 1 && ltb (limits (form_of bs)).bytes (bytes_of bs)) ≡ false)
  unfolding past_limit
  limit-parts =
      let a = or-false (ltb (k_of bs) 2) _ h in
      let b = or-false (ltb 128 (k_of bs)) _ a.1 in
      let c = or-false (ltb (limits (form_of bs)).vertices (vertices_of bs)) _ b.1 in
      let d = or-false (ltb (limits (form_of bs)).edges (edges_of bs)) _ c.1 in
      (a.0, b.0, c.0, d.0, d.1)

  bytes_most : kind_of bs ≡ 1 → bytes_of bs ≤ (limits (form_of bs)).bytes
  bytes_most o = ltb-false (limits (form_of bs)).bytes (bytes_of bs) (rw (eq-eqb (kind_of bs) 1 o) at limit-parts.4)

good-edge : (bs : List ℕ) (i : ℕ) → bad_edge bs i ≡ false → GoodEdge bs i
unfolding bad_edge
good-edge bs i h =
    let a = or-false (leb (vertices_of bs) (edge_at bs i).from) _ h in
    let b = or-false (leb (vertices_of bs) (edge_at bs i).to) _ a.1 in
    record { from = leb-false _ _ a.0; to = leb-false _ _ b.0; flag = ltb-false 3 (flag_at bs i) b.1 }

stated-whole : (bs : List ℕ) → other_length bs ≡ false → whole_of bs ≡ length bs
unfolding other_length
stated-whole bs h = eqb-true _ _ (not-false _ (or-false (ltb (length bs) (lengths_at (form_of bs))) _ h).1)

-- the kind is one that the call takes
kind-taken : (t : Takes) (bs : List ℕ) → refusal_of (layout_causes t bs) ≡ 0 → takes_kind t (kind_of bs) ≡ true
kind-taken t bs h = not-false _ (mark-parts t bs (no-cause t bs h).1).1

pub kmer-kind : (bs : List ℕ) → refusal_of (layout_causes kmer_only bs) ≡ 0 → kind_of bs ≡ 0
kmer-kind bs h = eqb-true (kind_of bs) 0 (unfold takes_kind in (kind-taken kmer_only bs h))

pub sequence-kind : (bs : List ℕ) → refusal_of (layout_causes sequence_only bs) ≡ 0 → kind_of bs ≡ 1
sequence-kind bs h = eqb-true (kind_of bs) 1 (unfold takes_kind in (kind-taken sequence_only bs h))

pub well-formed : (t : Takes) (bs : List ℕ) → refusal_of (layout_causes t bs) ≡ 0 → WellFormed bs
well-formed t bs h =
    let n = no-cause t bs h in
    record {
      marked = is-marked t bs n.1;
      kind = kind-low t bs n.1;
      status = status-low t bs n.1;
      kmer-status = status-none t bs n.1;
      k-least = ltb-false (k_of bs) 2 (limit-parts bs n.2).0;
      k-most = ltb-false 128 (k_of bs) (limit-parts bs n.2).1;
      vertices = ltb-false (limits (form_of bs)).vertices (vertices_of bs) (limit-parts bs n.2).2;
      edges = ltb-false (limits (form_of bs)).edges (edges_of bs) (limit-parts bs n.2).3;
      bytes = bytes_most bs n.2;
      lengths-at = lengths-offset bs (offsets-agree bs n.3);
      edges-at = edges_offset bs (offsets-agree bs n.3);
      bytes-at = bytes-offset bs (offsets-agree bs n.3);
      stated = stated-whole bs n.0;
      whole = whole_is bs (offsets-agree bs n.3);
      lengths = sum_is bs n.3;
      kmers = λ z i below. eqb-true _ _ (not-false _ (any_false (other_kmer_length bs) (vertices_of bs) (kmers-are bs n.3 z) i below));
      good = λ i below. good-edge bs i (any_false (bad_edge bs) (edges_of bs) (sym (any-bad-is bs) ∙ n.4) i below);
    }

module _ (t : Takes) (bs : List ℕ) {r : Result KmerSize Refusal} (l : LayoutOf (refusal_of (layout_causes t bs)) (k_of bs) r) where
  -- a well formed record has none of the causes, and its k is the size that was made
  pub formed-none : {k : KmerSize} → r ≡ Ok k → refusal_of (layout_causes t bs) ≡ 0
  formed-none f = sym l.number ∙ ap refused_by f

  pub formed-size : {k : KmerSize} → r ≡ Ok k → k.0 ≡ k_of bs
  formed-size f = l.size f

  pub layout-number : {n : Refusal} → r ≡ Err n → number_of_refusal n ≡ refusal_of (layout_causes t bs)
  layout-number f = sym (ap refused_by f) ∙ l.number
