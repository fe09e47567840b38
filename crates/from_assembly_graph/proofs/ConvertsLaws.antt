-- The promise of from_assembly_graph. Assumes nothing.
use mathlib.Core.Path.{◌≡◌, refl, sym, ap, ◌∙◌, subst}
use mathlib.Core.List.{List, [], ◌∷◌}
use Prim.Native.Nat.{ℕ, ◌≤◌, ◌<◌}
use native.Mathlib.Omega.{arith}
use lib.ListN.{length, take}
use Rattle.defs.specs.Lists.{all_of}
use Rattle.defs.specs.Forms.{Form, form_of, limits}
use Rattle.defs.specs.SeqGraph.{Graph}
use Rattle.defs.specs.Calls as D
use Rattle.defs.specs.Calls.{caller_cause, conversion_causes}
use Rattle.defs.specs.Calls.{from_assembly_graph_causes, from_assembly_graph_response, from_assembly_graph_answer}
use Rattle.defs.specs.Record.{sequence_graph, encode, decode}
use Rattle.defs.specs.Refusals.{Cause, refusal_of, layout_causes}
use Rattle.defs.specs.Assembly.{edges_sorted, from_assembly_graph, SourcesHoldKmers, RunsAreKmers}
use Rattle.defs.specs.Simplify.{sequence_bytes}
use Rattle.laws.proofs.Fuel.{Good}
use Rattle.laws.proofs.Causes.{numbers-other}
use Rattle.reread.specs.Reread.{input_length, ReacceptedAs}
use Rattle.reread.specs.Recordable.{SequenceInput, KmerInput}
use Rattle.reread.proofs.Graphs.{input-reaccepted}
use Rattle.reread.proofs.Read.{Bytes, kmer-input}
use Rattle.convert.proofs.SortLaws.{of-sort, length-sort, single-sort}
use Rattle.calls.specs.Sending.{Responds, made_number, GraphSendable, SendsGraph}
use Rattle.calls.specs.declared.Answer.{Answer}
use Rattle.calls.proofs.SendLaws.{sends-refused}
use Rattle.calls.proofs.ResponseLaws.{answered-holds, room-enough}
use Rattle.calls.proofs.CallerLaws.{caller-other, caller-none, sends-above, sends-within}
use Rattle.overlap.proofs.Runs.{order-converted, sources-hold-kmers, runs-are-kmers}
use Rattle.arrays.specs.Sized.{FewToRead}
use Rattle.arrays.proofs.SizedLaws.{room-to-mark-kept}
use Rattle.memory.specs.declared.Held.{Held}
use Rattle.accept.specs.Accept.{RoomToMark}
use Rattle.std.specs.Prelude.{Result, Ok, Err, MatchResult, IsErrAnd}
use Rattle.refusal.specs.Refusals.{number_of_refusal, refused_by}
use Rattle.refusal.specs.declared.Refusal.{Refusal}
use Rattle.refusal.proofs.RefusalLaws.{some-number}
use Rattle.read_kmers.specs.Kmers.{overlapping_causes, KmersRead}
use Rattle.from_kmers.specs.Conversion.{RoomToConvert, ConvertedAs, ConvertibleKmers, KmersConverted}
use Rattle.from_kmers.proofs.ConversionLaws.{conversion-numbered, none-early, none-late, all-overlap, refused, convertible, converted_as}
use Rattle.from_assembly_graph.specs.Converts.{conversion_response, Converts, HeldToConvert, SizedToReadKmers, SizedToConvert}

-- ---- the converted graph is within the limits of input

module _ (g : Graph) where
  converted-good : Good g → Good (from_assembly_graph g)
  unfolding from_assembly_graph edges_sorted
  converted-good (s, o) = (
    record {
      bounded = λ e m.
          let b = s.bounded e (of-sort g g.edges e m) in
          (omega (arith, order-converted g, b.0), omega (arith, order-converted g, b.1));
      rank = s.rank;
      ranks = λ a b l. s.ranks a b (l.0, of-sort g g.edges l.0 l.1, l.2, l.3);
    },
    single-sort g g.edges o,
  )

  converted-input : {f : Form} → KmerInput f g → sequence_bytes (from_assembly_graph g).verts ≤ (limits f).bytes → SequenceInput f (from_assembly_graph g)
  unfolding from_assembly_graph edges_sorted
  converted-input I few = record {
    good = converted-good I.good;
    k-least = I.k-least;
    k-most = I.k-most;
    vertices = omega (arith, order-converted g, I.vertices);
    edges = omega (arith, length-sort g g.edges, I.edges);
    bytes = few;
    supports = λ e m. I.supports e (of-sort g g.edges e m);
  }

convert-reaccepted : (bs : List ℕ) → Bytes bs → refusal_of (conversion_causes bs) ≡ 0
    → ReacceptedAs (form_of bs) (from_assembly_graph (decode bs)) (D.converted_record bs)
convert-reaccepted bs small none =
    input-reaccepted (form_of bs) (from_assembly_graph (decode bs))
    (converted-input (decode bs) (kmer-input bs small (none-early bs none)) (none-late bs none)) 0
    (omega arith)

never-11 : (bs : List ℕ) → refusal_of (conversion_causes bs) ≡ 11 → ⊥
unfolding conversion_causes layout_causes all_of
never-11 bs e = numbers-other 11 (conversion_causes bs) (omega arith) refl e

-- ---- what it keeps of the k-mers

convert-runs : (bs : List ℕ) → Bytes bs → refusal_of (conversion_causes bs) ≡ 0 → RunsAreKmers (decode bs) (from_assembly_graph (decode bs))
convert-runs bs small none =
    let I = kmer-input bs small (none-early bs none) in
    runs-are-kmers (decode bs) I.kmers.sizes (all-overlap bs none) (omega (arith, I.k-least))

-- ---- what is sent

-- the same graph, or the number of the refusal
record ByNumber (r : Result Held Refusal) (sent : Result Held ℕ) : Type 0 where
  number : made_number sent ≡ refused_by r
  graph : (h : Held) → sent ≡ Ok h → r ≡ Ok h
  some : (n : ℕ) → sent ≡ Err n → n ≡ 0 → ⊥

by-number : (r : Result Held Refusal) (sent : Result Held ℕ) → MatchResult r (λ h. sent ≡ Ok h) (λ e. IsErrAnd sent (λ n. n ≡ number_of_refusal e)) → ByNumber r sent
unfolding made_number
by-number (Ok h) sent q = record {
  number = ap made_number q;
  graph = λ g p. let w : ◌≡◌ {A = Result Held ℕ} (Ok h) (Ok g) = sym q ∙ p in let same : h ≡ g = cc in ap Ok same;
  some = λ n p z. let w : ◌≡◌ {A = Result Held ℕ} (Ok h) (Err n) = sym q ∙ p in absurd (let y : ◌≡◌ {A = ℕ} 0 1 = cc in omega arith);
}
by-number (Err e) (Ok h) q = absurd q
by-number (Err e) (Err m) q = record {
  number = q;
  graph = λ g p. absurd (some-number e (sym q ∙ ap made_number p));
  some = λ n p z. some-number e (sym q ∙ ap made_number p ∙ z);
}

module _ {bs : List ℕ} {r : Result Held Refusal} {sent : Result Held ℕ} {sorted vs : List ℕ} (C : ConvertedAs bs r sorted vs) (N : ByNumber r sent) {f : Form}
    (form : f ≡ form_of bs) where
  converted-sent : {out out' : List ℕ} {s : Answer} → SendsGraph f 0 sent sorted vs bs out s out' → Responds (conversion_response bs (length out)) out s out'
  converted-sent S = S.is (conversion_causes bs) (D.converted_record bs)
      record {
        numbered = conversion-numbered bs;
        number = N.number ∙ C.number;
        is = λ h ok i. encode (form i) sequence_graph 0 (C.is h (N.graph h ok) i);
        refused = N.some;
      }

module _ {bs : List ℕ} {r : Result Held Refusal} {es vs heads nexts order : List ℕ} (A : KmersRead (overlapping_causes bs) bs r es vs heads nexts order) where
  pub refused-sent : {n : Refusal} → r ≡ Err n → {s : Answer} → s ≡ record { number = number_of_refusal n; length = 0 } → {out : List ℕ}
      → Responds (conversion_response bs (length out)) out s out
  refused-sent {n} f a = converted-sent (refused A {es₂ = []} {vs₂ = []} f) (by-number (Err n) (Err (number_of_refusal n)) refl) refl (sends-refused refl a)

  pub held-to-convert : {h : Held} → r ≡ Ok h → {scratch place sorted : List ℕ} → RoomToConvert bs es vs heads nexts order scratch place sorted
      → HeldToConvert bs h es vs heads nexts order scratch place sorted
  held-to-convert ok R = record { read = subst (λ (x : Result Held Refusal). KmersRead (overlapping_causes bs) bs x es vs heads nexts order) ok A; room = R }

module _ {bs : List ℕ} {h : Held} {es vs heads nexts order scratch place sorted : List ℕ}
    (H : HeldToConvert bs h es vs heads nexts order scratch place sorted) where
  pub held-convertible : ConvertibleKmers h es vs heads nexts order scratch place sorted
  held-convertible = convertible H.read refl H.room

  module _ {f : Form} (form : f ≡ form_of bs) {made : Result Held Refusal} {sorted' vs' : List ℕ} (K : KmersConverted f h es vs heads nexts order made sorted' vs') where
    made_as : ConvertedAs bs made sorted' vs'
    made_as = converted_as H.read refl form K

    module _ {sent : Result Held ℕ} (M : MatchResult made (λ h. sent ≡ Ok h) (λ e. IsErrAnd sent (λ n. n ≡ number_of_refusal e))) where
      pub made-sendable : GraphSendable f 0 sent sorted' vs' bs
      made-sendable =
          let N = by-number made sent M in
          subst (λ (g : Form). GraphSendable g 0 sent sorted' vs' bs) (sym form) record { sendable = λ h ok. made_as.sendable h (N.graph h ok) }

      pub made-sent : {out out' : List ℕ} {s : Answer} → SendsGraph f 0 sent sorted' vs' bs out s out' → Responds (conversion_response bs (length out)) out s out'
      made-sent S = converted-sent made_as (by-number made sent M) form S

-- ---- the whole call

module _ (bs : List ℕ) (caller : ℕ) {out : List ℕ} {a : Answer} {out' : List ℕ} (small : Bytes bs)
    (S : Responds (from_assembly_graph_response bs (length out) caller) out a out') where
  abbrev causes : List Cause
  causes = caller_cause caller ∷ conversion_causes bs

  abbrev result : List ℕ
  result = D.converted_record bs

  converts : Converts bs out caller a out'
  unfolding from_assembly_graph_answer from_assembly_graph_response from_assembly_graph_causes D.answer
  converts = record {
    answer = λ i. record { number = S.number i; length = S.size i };
    written = S.written;
    room = λ l i.
        room-enough causes out result (input_length (form_of bs)) (λ e. never-11 bs (caller-other caller (conversion_causes bs) (λ z. omega (arith, z)) e))
        (λ ok. (again ok).size) l (sym S.number ∙ i);
    reaccepted = holds (ReacceptedAs (form_of bs) (from_assembly_graph (decode bs))) again;
    sources = holds (λ rec. SourcesHoldKmers (decode bs) (decode rec)) (λ ok.
        subst (SourcesHoldKmers (decode bs)) (sym (again ok).graph) (sources-hold-kmers (decode bs)));
    runs = holds (λ rec. RunsAreKmers (decode bs) (decode rec)) (λ ok.
        subst (RunsAreKmers (decode bs)) (sym (again ok).graph) (convert-runs bs small (none_of ok)));
  }
    where
      none_of : refusal_of causes ≡ 0 → refusal_of (conversion_causes bs) ≡ 0
      none_of = caller-none caller (conversion_causes bs)

      again : refusal_of causes ≡ 0 → ReacceptedAs (form_of bs) (from_assembly_graph (decode bs)) result
      again ok = convert-reaccepted bs small (none_of ok)

      holds : (P : List ℕ → Type 0) → (refusal_of causes ≡ 0 → P result) → a.number ≡ 0 → P (take a.length out')
      holds P f = answered-holds causes out result P f S.number S.size S.written

module _ (bs : List ℕ) {caller : ℕ} {out : List ℕ} (small : Bytes bs) where
  pub converts-refused : 15 < caller → {a : Answer} → a ≡ record { number = 18; length = 0 } → Converts bs out caller a out
  unfolding from_assembly_graph_response from_assembly_graph_causes
  converts-refused l {a} q =
      rw q (converts bs caller small (sends-above _ _ l))

  pub converts-sent : {a : Answer} {out' : List ℕ} → caller ≤ 15 → Responds (conversion_response bs (length out)) out a out' → Converts bs out caller a out'
  unfolding from_assembly_graph_response from_assembly_graph_causes
  converts-sent l S = converts bs caller small (sends-within _ _ l S)

-- ---- room

module _ {v e : ℕ} {bs es vs heads nexts order scratch place : List ℕ} (F : FewToRead v e bs) (more : v ≤ e) where
  pub room-to-read-kmers : SizedToReadKmers v e es vs heads nexts order scratch place → RoomToMark bs es vs heads nexts order scratch place
  room-to-read-kmers Z = record {
    reading = record {
      room = λ W. let a = F.vertices W in let b = F.edges W in record {
        es-room = omega (arith, b, Z.es-is);
        vs-room = omega (arith, a, Z.vs-is);
        heads-room = omega (arith, a, Z.heads-is);
        nexts-room = omega (arith, b, Z.nexts-is);
        nodes-room = omega (arith, a, more, Z.order_is);
        mp-room = omega (arith, a, more, Z.scratch-is);
      };
    };
    marks-room = λ W. omega (arith, F.vertices W, Z.place_is);
  }

  pub room-to-convert : {sorted : List ℕ} → SizedToConvert v e es vs heads nexts order scratch place sorted
      → RoomToConvert bs es vs heads nexts order scratch place sorted
  room-to-convert Z = record {
    reading = room-to-read-kmers Z.reading;
    order-room = λ W. omega (arith, F.edges W, Z.reading.order_is);
    scratch-room = λ W. omega (arith, F.edges W, Z.reading.scratch-is);
    sorted-room = λ W. omega (arith, F.edges W, Z.sorted-is);
  }

-- the same slices when a graph was read into them: still as long
pub room-to-convert-kept : {bs es vs heads nexts order scratch place sorted es' vs' heads' nexts' order' scratch' place' : List ℕ}
    → RoomToConvert bs es vs heads nexts order scratch place sorted → length es' ≡ length es → length vs' ≡ length vs → length heads' ≡ length heads
    → length nexts' ≡ length nexts → length order' ≡ length order → length scratch' ≡ length scratch → length place' ≡ length place
    → RoomToConvert bs es' vs' heads' nexts' order' scratch' place' sorted
room-to-convert-kept R a b c d e f g = record {
  reading = room-to-mark-kept R.reading a b c d e f g;
  order-room = λ W. omega (arith, e, R.order-room W);
  scratch-room = λ W. omega (arith, f, R.scratch-room W);
  sorted-room = R.sorted-room;
}
