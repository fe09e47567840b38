-- What is put is the text of the input. Assumes nothing.
use mathlib.Core.Path.{◌≡◌, refl, sym, ap, ◌∙◌, subst}
use mathlib.Core.Bool.{false, ◌||◌}
use mathlib.Core.List.{List, [], ◌∷◌, ◌++◌}
use Prim.Native.Nat.{ℕ, zero, suc, ◌+◌, ◌*◌, ◌≤◌, ◌<◌}
use native.Mathlib.Omega.{arith}
use lib.ListN.{length, take, drop, length-append}
use lib.Seq.{sets-eq, take-append_seam}
use borrow.Author.Tests.{lt-ltb, le-ltb}
use Rattle.defs.specs.SeqGraph.{Graph, node_count}
use Rattle.defs.specs.Simplify as S
use Rattle.defs.specs.Simplify.{sequence_bytes, simplify_graph_full, min_tail_suffix_len, end_number}
use Rattle.defs.specs.Forms.{Form, sgr1, sgr2, form_of, word_size, lengths_at, edge_size, limits}
use Rattle.defs.specs.Record.{sequence_graph, k_of, vertices_of, edges_of, bytes_of, edges_at, bytes_at, whole_length, encode, decode}
use Rattle.form.specs.declared.Form as Code
use Rattle.form.specs.Coded.{form_is}
use Rattle.form.proofs.FormLaws.{limits-small}
use Rattle.record.specs.Headed.{Headed}
use Rattle.defs.specs.Refusals.{Cause, refusal_of, sequence_only, record_causes, record_refusal}
use Rattle.defs.specs.Calls as D
use Rattle.defs.specs.Calls.{Response, refused, accepted, number_of, length_of, field_of, written_of, respond_to, respond}
use Rattle.defs.specs.Calls.{caller_cause, simplify_graph_causes, simplify_graph_response, simplify_graph_answer, simplified_record}
use Rattle.laws.proofs.ListLaws.{clash}
use Rattle.laws.proofs.Causes.{refusal-absent, refusal-front}
use Rattle.kmer.specs.declared.KmerSize.{KmerSize}
use Rattle.kmer.specs.Size.{k_past_limit, size_of}
use Rattle.std.specs.Prelude.{Option, Some, None}
use Rattle.kmer.proofs.SizeLaws.{refused-past, made-is}
use Rattle.pool.specs.Pool.{bytes_in}
use Rattle.memory.specs.declared.Held.{Held}
use Rattle.load.specs.Loaded.{Loadable, Loaded}
use Rattle.load.proofs.LoadLaws.{laid-least, laid-headed}
use Rattle.sound.proofs.Accepted.{order-read}
use Rattle.write_record.proofs.WriteLaws.{bytes-are, encode-length}
use Rattle.calls.specs.Answers.{simplify_answer_of}
use Rattle.calls.specs.declared.SimplifyAnswer.{SimplifyAnswer}
use Rattle.calls.proofs.ResponseLaws.{by-response}
use Rattle.calls.proofs.CallerLaws.{respond-within, caller-record-none}
use Rattle.reread.specs.Reread.{RereadAs}
use Rattle.reread.specs.Recordable.{SequenceAnswer}
use Rattle.reread.proofs.Read.{Bytes}
use Rattle.reread.proofs.Graphs.{answer-laid}
use Rattle.reread.proofs.Answers.{simplify-within, simplify-reread}
use Rattle.simplify_graph.specs.Simplifies.{Simplifies}
use Rattle.text.specs.Printed.{first_line, second_line, printed_graph, printed_refusal, printed_answer, input_causes, shown}
use Rattle.text.specs.Put.{TextPut}
use Rattle.text.proofs.TextLaws.{put_as, put-most}
use Rattle.graph_text.specs.GraphText.{end_with_number, graph_most, HeadFits, Printable, LinesPut}
use Rattle.graph_text.proofs.GraphLaws.{end_back}
use Rattle.show.specs.Show.{Recorded, FewShown, SizedToShow, RecordOf, GraphPut, Printing, answer_text, AnswerPut, Shown}

-- ---- a record's graph

-- what so short a record can hold, by its form, and how long its text can be
module _ (n m b : ℕ) where
  vertices-most : (f : Form) → whole_length f n m b ≤ 65536 → n ≤ (limits f).answer_vertices → n ≤ 16375
  unfolding whole_length bytes_at edges_at lengths_at word_size edge_size limits
  vertices-most sgr1 l h = omega arith
  vertices-most sgr2 l h = omega arith

  edges_most : (f : Form) → whole_length f n m b ≤ 65536 → m ≤ 7278
  unfolding whole_length bytes_at edges_at lengths_at word_size edge_size
  edges_most sgr1 l = omega arith
  edges_most sgr2 l = omega arith

  text-most : (f : Form) → whole_length f n m b ≤ 65536 → n ≤ (limits f).answer_vertices → b ≤ (limits f).bytes → 138 + (15 * n + 4 * b) + 38 * m ≤ 344000
  unfolding whole_length bytes_at edges_at lengths_at word_size edge_size limits
  text-most sgr1 l h k = omega arith
  text-most sgr2 l h k = omega arith

module _ {bs : List ℕ} (R : Recorded bs) where
  whole-short : whole_length (form_of bs) (vertices_of bs) (edges_of bs) (bytes_of bs) ≤ 65536
  whole-short = omega (arith, R.laid.whole, R.short)

  pub recorded-few : FewShown 16375 7278 bs
  recorded-few = record {
    vertices = vertices-most (vertices_of bs) (edges_of bs) (bytes_of bs) (form_of bs) whole-short R.vertices;
    edges = edges_most (vertices_of bs) (edges_of bs) (bytes_of bs) (form_of bs) whole-short;
  }

  pub recorded-headed : {form : Code.Form} → form_is form ≡ form_of bs → Headed form bs
  recorded-headed is = laid-headed R.laid is

  pub recorded-long : 32 ≤ length bs
  recorded-long = omega (arith, laid-least R.laid)

  -- its k is one
  past-none : (k : ℕ) → 2 ≤ k → k ≤ 128 → k_past_limit k ≡ false
  unfolding k_past_limit
  past-none k a b = λ i. le-ltb k 2 a i || le-ltb 128 k b i

  pub recorded-size : {m : Option KmerSize} {X : Type 0} → m ≡ size_of (k_of bs) → m ≡ None → X
  recorded-size q f =
      clash (refused-past (k_of bs) (sym q ∙ f)) (past-none (k_of bs) R.k-least R.k-most)

  pub recorded-loadable : {v e : ℕ} {es vs : List ℕ} → FewShown v e bs → SizedToShow v e es vs → {m : Option KmerSize} {k : KmerSize}
      → m ≡ size_of (k_of bs) → m ≡ Some k → (k.0 ≡ k_of bs) × Loadable bs es vs
  recorded-loadable F Y q f = (
    made-is (k_of bs) (sym q ∙ f),
    record {
      laid = R.laid;
      es-room = omega (arith, F.edges, Y.es-is);
      vs-room = omega (arith, F.vertices, Y.vs-is);
    },
  )

  module _ {h : Held} {es' vs' : List ℕ} (L : Loaded bs h es' vs') where
    bytes-is : bytes_in h.n vs' ≡ sequence_bytes (decode bs).verts
    bytes-is =
        sym (bytes-are (form_of bs) 0 h.k.0 h.n h.m es' vs' bs L.within) ∙ ap (λ (g : Graph). sequence_bytes g.verts) L.is

    long-is : length bs ≡ whole_length (form_of bs) h.n h.m (bytes_in h.n vs')
    long-is =
        ap length R.is ∙ ap (λ (g : Graph). length (encode (form_of bs) sequence_graph 0 g)) (sym L.is)
        ∙ encode-length (form_of bs) 0 h.k.0 h.n h.m es' vs' bs L.within

    text-fits : graph_most h vs' ≤ 344000
    text-fits =
        text-most h.n h.m (bytes_in h.n vs') (form_of bs) (omega (arith, long-is, R.short)) (omega (arith, L.n, R.vertices))
        (omega (arith, bytes-is, R.bytes))

    pub recorded-printable : {v e : ℕ} {es vs text : List ℕ} → FewShown v e bs → SizedToShow v e es vs → 344000 ≤ length text
        → length es' ≡ length es → length vs' ≡ length vs → Printable h es' vs' bs text
    recorded-printable F Y room a b = record {
      n-fits = omega (arith, L.n, recorded-few.vertices);
      m-fits = omega (arith, L.m, recorded-few.edges);
      bytes_fit = omega (arith, bytes-is, R.bytes, (limits-small (form_of bs)).bytes);
      es-room = omega (arith, a, L.m, F.edges, Y.es-is);
      vs-room = omega (arith, b, L.n, F.vertices, Y.vs-is);
      within = L.within;
      room = omega (arith, text-fits, room);
    }

    pub recorded-head : {b : ℕ} {text : List ℕ} → b ≡ bytes_in h.n vs' → 344000 ≤ length text → HeadFits h b text
    recorded-head q room = record {
      n-fits = omega (arith, L.n, recorded-few.vertices);
      m-fits = omega (arith, L.m, recorded-few.edges);
      bytes_fit = omega (arith, q, bytes-is, R.bytes, (limits-small (form_of bs)).bytes);
      room = omega (arith, room);
    }

    pub recorded-countable : {v e : ℕ} {es vs : List ℕ} → FewShown v e bs → SizedToShow v e es vs → length vs' ≡ length vs
        → (2 * h.n ≤ length vs') × (bytes_in h.n vs' < 4294967296)
    recorded-countable F Y a = (
      omega (arith, a, L.n, F.vertices, Y.vs-is),
      omega (arith, bytes-is, R.bytes, (limits-small (form_of bs)).bytes),
    )

    pub recorded-put : {made : SimplifyAnswer} {text text₁ text' : List ℕ} {b at r : ℕ} → b ≡ bytes_in h.n vs'
        → TextPut 138 (first_line h.k.0 h.n h.m b ++ second_line made.rewrites made.rounds (end_with_number made.end)) text 0 at text₁
        → LinesPut h es' vs' bs text₁ at r text' → GraphPut made bs text r text'
    recorded-put {made} q W P = record {
      is = λ z Z. put_as (ap printed_graph (λ i. record {
        graph = (L.is ∙ Z.graph) i;
        rewrites = Z.rewrites i;
        rounds = Z.rounds i;
        end = (ap end_with_number Z.end ∙ end_back z.end) i;
      })) (put-most text-fits (P.is made.rewrites made.rounds made.end q W));
    }

-- ---- an answer

refused-text : (n : ℕ) (z : S.Simplified) → (n ≡ 0 → ⊥) → answer_text n z ≡ printed_refusal n
unfolding answer_text
refused-text zero z o = absurd (o refl)
refused-text (suc n) z o = refl

module _ {made : SimplifyAnswer} {out text text' : List ℕ} {r : ℕ} where
  pub answer-refused : (made.number ≡ 0 → ⊥) → TextPut 19 (printed_refusal made.number) text 0 r text' → AnswerPut made out text r text'
  answer-refused o W = record { is = λ z _. put_as (sym (refused-text made.number z o)) (put-most (omega arith) W) }

  pub answer-put : made.number ≡ 0 → GraphPut made (take made.length out) text r text' → AnswerPut made out text r text'
  unfolding answer_text
  answer-put e G = record { is = λ z Z. put_as (ap (λ (n : ℕ). answer_text n z) (sym e)) (G.is z (Z e)) }

-- ---- the whole

put_front : {s text text' : List ℕ} {r : ℕ} → 344000 ≤ length text → TextPut 344000 s text 0 r text' → text' ≡ s ++ drop r text
put_front {s} {text} {text'} {r} h P =
    let e : 0 + length s ≡ r = omega (arith, P.end) in
    P.is ∙ sets-eq s text 0 (omega (arith, P.size)) ∙ ap (λ (x : ℕ). s ++ drop x text) e

put-shown : {bs text text' : List ℕ} {r m : ℕ} {s : List ℕ} → s ≡ shown bs → m ≤ 344000 → 344000 ≤ length text → TextPut m s text 0 r text'
    → Shown bs text r text'
put-shown e l h P = let Q = put_as e (put-most l P) in record { long = omega (arith, Q.end); is = put_front h Q }

-- input that is too long
long-text : (bs : List ℕ) → 65536 < length bs → printed_refusal 1 ≡ shown bs
unfolding shown input_causes respond respond_to printed_answer refusal_of
long-text bs l = rw (lt-ltb 65536 (length bs) l, refusal_of) refl

pub long-shown : (bs : List ℕ) {text text' : List ℕ} {r : ℕ} → 65536 < length bs → 344000 ≤ length text → TextPut 19 (printed_refusal 1) text 0 r text'
    → Shown bs text r text'
long-shown bs l h P = put-shown (long-text bs l) (omega arith) h P

module _ (bs : List ℕ) where
  abbrev z : S.Simplified
  z = simplify_graph_full min_tail_suffix_len (decode bs)

  abbrev causes : List Cause
  causes = caller_cause 0 ∷ record_causes sequence_only bs

  abbrev response : Response
  response = simplify_graph_response bs 65536 0

  -- what is shown is the text of what the call answers
  shown-is : length bs ≤ 65536 → printed_answer response z ≡ shown bs
  unfolding shown simplify_graph_response simplify_graph_causes input_causes respond
  shown-is l = ap (λ (x : Response). printed_answer x z)
      (respond-within 0 _ (simplified_record bs) (omega arith)
      ∙ ap (λ (n : ℕ). respond_to n (simplified_record bs)) (sym (refusal-absent _ _ (le-ltb 65536 (length bs) l))))

  text-is : answer_text (number_of response) z ≡ printed_answer response z
  unfolding simplify_graph_response answer_text printed_answer number_of
  text-is = by-response (simplify_graph_causes bs 65536 0) (simplified_record bs)
      (λ n e o. ap (λ (x : Response). answer_text (number_of x) z) e ∙ refused-text n z o ∙ sym (ap (λ (x : Response). printed_answer x z) e))
      (λ q e. ap (λ (x : Response). answer_text (number_of x) z) e ∙ sym (ap (λ (x : Response). printed_answer x z) e))

-- from the call's promise
module _ {bs out : List ℕ} (small : Bytes bs) (room : length out ≡ 65536) {made : SimplifyAnswer} {out' : List ℕ} (P : Simplifies bs out 0 made out') where
  answer-is : simplify_answer_of made ≡ simplify_graph_answer bs 65536 0
  answer-is = P.answer ∙ ap (λ (i : ℕ). simplify_graph_answer bs i 0) room

  number_is : made.number ≡ number_of (response bs)
  unfolding simplify_graph_answer
  number_is = ap (λ (x : D.SimplifyAnswer). x.number) answer-is

  length-is : made.length ≡ length_of (response bs)
  unfolding simplify_graph_answer
  length-is = ap (λ (x : D.SimplifyAnswer). x.length) answer-is

  written_is : out' ≡ written_of (response bs) out
  written_is = P.written ∙ ap (λ (i : ℕ). written_of (simplify_graph_response bs i 0) out) room

  -- an answer's record, where there is one
  by_number : {X : Type 0} → ((made.number ≡ 0 → ⊥) → made.length ≡ 0 → X)
      → (record_refusal sequence_only bs ≡ 0 → response bs ≡ accepted (simplified_record bs) → take made.length out' ≡ simplified_record bs → X) → X
  unfolding simplify_graph_response simplify_graph_causes number_of length_of written_of
  by_number f g = by-response (simplify_graph_causes bs 65536 0) (simplified_record bs)
      (λ n e o. f (λ z. o (sym (number_is ∙ ap number_of e) ∙ z)) (length-is ∙ ap length_of e))
      (λ q e. g (caller-record-none 0 sequence_only bs (refusal-front (causes bs) (D.output_cause 65536 (simplified_record bs) ∷ []) q)) e
      ((λ i. take ((length-is ∙ ap length_of e) i) ((written_is ∙ ap (λ (x : Response). written_of x out) e) i))
      ∙ take-append_seam (simplified_record bs) (drop (length (simplified_record bs)) out)))

  front-inside : response bs ≡ accepted (simplified_record bs) → length (simplified_record bs) ≤ length out'
  unfolding written_of
  front-inside e = let w = simplified_record bs in
      omega (arith, ap length (written_is ∙ ap (λ (x : Response). written_of x out) e), length-append w (drop (length w) out))

  length-answered : response bs ≡ accepted (simplified_record bs) → made.length ≡ length (simplified_record bs)
  unfolding length_of
  length-answered e = length-is ∙ ap length_of e

  -- the record of the simplified graph
  module _ (ok : record_refusal sequence_only bs ≡ 0) where
    again : RereadAs (form_of bs) (z bs).graph (simplified_record bs)
    again = simplify-reread bs small ok

    within : SequenceAnswer (form_of bs) (z bs).graph
    within = simplify-within bs small ok

    size_is : k_of (simplified_record bs) ≡ (z bs).graph.k
    unfolding decode
    size_is = ap (λ (g : Graph). g.k) again.graph

    record-recorded : length (simplified_record bs) ≤ 65536 → Recorded (simplified_record bs)
    record-recorded l = record {
      laid = answer-laid (form_of bs) (z bs).graph within 0 (omega arith);
      is = λ i. encode (sym again.form i) sequence_graph 0 (sym again.graph i);
      k-least = omega (arith, size_is, within.k-least);
      k-most = omega (arith, size_is, within.k-most);
      vertices = omega (
        arith,
        sym (order-read (simplified_record bs)) ∙ ap node_count again.graph,
        within.vertices,
        ap (λ (f : Form). (limits f).answer_vertices) again.form,
      );
      bytes = omega (
        arith,
        ap (λ (g : Graph). sequence_bytes g.verts) again.graph,
        within.bytes,
        ap (λ (f : Form). (limits f).bytes) again.form,
      );
      short = l;
    }

  module _ (kept : length out' ≡ length out) where
    pub call-printing : Printing made out'
    call-printing = record {
      inside = by_number (λ o e. omega (arith, e)) (λ ok e t. omega (arith, length-answered e, front-inside e));
      recorded = λ n. by_number (λ o e. absurd (o n)) (λ ok e t.
          subst Recorded (sym t) (record-recorded ok (omega (arith, front-inside e, kept, room))));
    }

    record_of : made.number ≡ 0 → RecordOf (z bs) made (take made.length out')
    unfolding simplify_graph_answer field_of
    record_of n = by_number (λ o e. absurd (o n)) (λ ok e t.
        let field : (x : ℕ) → field_of (response bs) x ≡ x = λ x. ap (λ (y : Response). field_of y x) e in
        record {
          graph = ap decode t ∙ (again ok).graph;
          rewrites = ap (λ (x : D.SimplifyAnswer). x.rewrites) answer-is ∙ field (z bs).rewrites;
          rounds = ap (λ (x : D.SimplifyAnswer). x.rounds) answer-is ∙ field (z bs).rounds;
          end = ap (λ (x : D.SimplifyAnswer). x.end) answer-is ∙ field (end_number (z bs).end);
        })

    pub call-shown : length bs ≤ 65536 → {text text' : List ℕ} {r : ℕ} → 344000 ≤ length text → AnswerPut made out' text r text' → Shown bs text r text'
    call-shown short h A =
        put-shown (ap (λ (n : ℕ). answer_text n (z bs)) number_is ∙ text-is bs ∙ shown-is bs short) (omega arith) h (A.is (z bs) record_of)

-- the text ends within the slice
pub shown-fits : {bs text text' : List ℕ} {r : ℕ} → Shown bs text r text' → r ≤ length text'
shown-fits {bs} {text} {text'} {r} S = omega (arith, S.long, ap length S.is, length-append (shown bs) (drop r text))
