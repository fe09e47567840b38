-- Reading, then what the call does with the graph. Assumes nothing.
use mathlib.Core.Path.{◌≡◌, refl, sym, ap, ◌∙◌, subst}
use mathlib.Core.List.{List}
use Prim.Native.Nat.{ℕ, ◌≤◌, ◌<◌}
use native.Mathlib.Omega.{arith}
use lib.ListN.{length}
use Rattle.defs.specs.SeqGraph.{Graph}
use Rattle.defs.specs.Simplify.{sequence_bytes}
use Rattle.defs.specs.Cleanup.{clean_non_ref_paths}
use Rattle.defs.specs.Forms.{Form, form_of, limits}
use Rattle.defs.specs.Record.{sequence_graph, bytes_of, encode}
use Rattle.defs.specs.Refusals.{sequence_only, layout_causes, record_causes, record_refusal}
use Rattle.defs.specs.Calls.{refused, reduced_record, clean_non_ref_paths_causes, clean_non_ref_paths_response}
use Rattle.defs.specs.Calls.{reference_path_bytes_causes, reference_path_bytes_response, path_bases_bytes_causes, path_bases_bytes_response}
use Rattle.form.proofs.FormLaws.{between, SmallLimits, limits-small, LimitsFit, limits-fit}
use Rattle.record.proofs.Accepted.{sequence-kind}
use Rattle.record.proofs.Sequences.{length-least}
use Rattle.store.specs.Store.{Within}
use Rattle.compact.specs.Compact.{Compactable}
use Rattle.index.specs.Index.{Indexable}
use Rattle.memory.specs.Memory.{graph_of}
use Rattle.memory.specs.declared.Held.{Held}
use Rattle.sound.proofs.Accepted.{accepted-early, accepted-layout, accepted-good, read-bytes}
use Rattle.reach.specs.Reach.{Walkable}
use Rattle.orphans.specs.Orphans.{Reduced}
use Rattle.accept.specs.Accept.{RoomToMark, ReadAs}
use Rattle.std.specs.Prelude.{Result, Ok, Err}
use Rattle.refusal.specs.Refusals.{number_of_refusal}
use Rattle.refusal.specs.declared.Refusal.{Refusal}
use Rattle.refusal.proofs.RefusalLaws.{some-number}
use Rattle.accept.proofs.AcceptLaws.{read_none, read_refusal}
use Rattle.pool.specs.Pool.{bytes_in}
use Rattle.pool.proofs.PoolLaws.{bytes_below}
use Rattle.write_record.specs.Written.{Measured}
use Rattle.write_record.proofs.WriteLaws.{bytes-are}
use Rattle.cleanup_room.proofs.CleanInput.{clean-bytes}
use Rattle.calls.specs.Sending.{fits, Sendable, Responds}
use Rattle.calls.specs.declared.Answer.{Answer}
use Rattle.calls.proofs.SendLaws.{responds-refused, responds-as}
use Rattle.calls.proofs.ResponseLaws.{respond-refused, respond-fits}
use Rattle.calls.proofs.CauseLaws.{record-numbered}
use Rattle.calls.proofs.CallerLaws.{respond-above, respond-within}
use Rattle.reading_calls.specs.Reading.{cleaning_response, reference_response, path_response, reading_response, reading_response_to}
use Rattle.reading_calls.specs.Reading.{Answerable, GraphAnswered}
use Rattle.reading_calls.specs.declared.ReadingCall.{ReadingCall}
use Rattle.reading_calls.specs.declared.ReadingCall.TheVariants.{CleanNonRefPaths, ReferencePathBytes, PathBasesBytes}
use Rattle.reading_calls.proofs.BytesLaws.{reference-refused, path-refused}

-- the room is enough for what was read
module _ {bs es vs heads nexts nodes mp tried : List ℕ} (Z : RoomToMark bs es vs heads nexts nodes mp tried) where
  pub room-answerable : {x : Result Held Refusal} → ReadAs bs x es vs → {h : Held} → x ≡ Ok h → Answerable h es vs bs heads nexts nodes mp tried
  room-answerable A {h} ok =
      let z = read_none A ok in
      let L = A.loaded h ok in
      let W = accepted-layout sequence_only bs z in
      let R = Z.reading.room W in
      let most = limits-small (form_of bs) in
      let bytes = W.bytes (sequence-kind bs (accepted-early sequence_only bs z)) in
      let total : sequence_bytes (graph_of h es vs bs).verts ≡ bytes_of bs = ap (λ (g : Graph). sequence_bytes g.verts) L.is ∙ read-bytes bs W in
      record {
        tellable = record {
          indexable = record {
            room = omega (arith, L.m, R.es-room);
            heads-room = omega (arith, L.n, R.heads-room);
            nexts-room = omega (arith, L.m, R.nexts-room);
            small = omega (arith, L.m, W.edges, most.edges);
            ends = L.ends;
          };
          spellable = record {
            sound = rw L.is (accepted-good sequence_only bs z).0;
            within = L.within;
            vs-room = omega (arith, L.n, R.vs-room);
            nodes-room = omega (arith, L.n, R.nodes-room);
            small = omega (arith, L.n, W.vertices, most.vertices);
            bytes = omega (arith, total, length-least bs W);
          };
          few = omega (arith, total, bytes, most.bytes);
        };
        compactable = record {
          es-room = omega (arith, L.m, R.es-room);
          vs-room = omega (arith, L.n, R.vs-room);
          mp-room = omega (arith, L.n, R.mp-room);
          small = omega (arith, L.n, W.vertices, most.vertices);
          ends = L.ends;
        };
        walkable = record {
          marks-room = omega (arith, L.n, Z.marks-room W);
          queue-room = omega (arith, L.n, R.nodes-room);
          small = omega (arith, L.n, W.vertices, most.vertices);
        };
        vertices = omega (arith, L.n, W.vertices);
        edges = omega (arith, L.m, W.edges);
        bytes = omega (arith, total, bytes);
      }

module _ {h : Held} {es vs p heads nexts nodes mp tried : List ℕ} (Q : Answerable h es vs p heads nexts nodes mp tried) where
  pub answerable-walkable : Compactable h.n h.m es vs mp × (Indexable h.m h.n es heads nexts × Walkable h.n tried nodes)
  answerable-walkable = (Q.compactable, (Q.tellable.indexable, Q.walkable))

  -- the cleaned graph's record can be written where it fits
  pub cleaned-sendable : {f : Form} → f ≡ form_of p → {c : Held} {es' vs' : List ℕ} → Reduced clean_non_ref_paths h es vs c es' vs' → length es' ≡ length es → length vs'
      ≡ length vs → Sendable f 0 c es' vs' p
  cleaned-sendable {f} form {c} {es'} {vs'} R a b = subst (λ (g : Form). Sendable g 0 c es' vs' p) (sym form) record {
    measured = measured;
    within = within;
    writable = λ out room. record {
      status-fits = omega arith;
      n-fits = omega (arith, R.most-n, Q.vertices, fit.vertices, most.answer-vertices);
      m-fits = omega (arith, R.most-m, Q.edges, fit.edges, most.answer-edges);
      lengths-fit = λ v l. omega (arith, bytes_below c.n v vs' l, total, fit.bytes);
      ends = R.ends;
      es-room = omega (arith, a, R.most-m, Q.compactable.es-room);
      within = within;
      measured = measured;
      room = room;
    };
  }
    where
      within : Within (length p) c.n vs'
      within = R.within (length p) Q.tellable.spellable.within

      most : SmallLimits (form_of p)
      most = limits-small (form_of p)

      fit : LimitsFit (form_of p)
      fit = limits-fit (form_of p)

      -- cleaning takes bytes away, if any
      total : bytes_in c.n vs' ≤ (limits (form_of p)).bytes
      total =
          let are = bytes-are (form_of p) 0 c.k.0 c.n c.m es' vs' p within in
          omega (arith, are, ap (λ (g : Graph). sequence_bytes g.verts) (R.is p), clean-bytes (graph_of h es vs p), Q.bytes)

      measured : Measured (form_of p) c vs'
      measured = record {
        vs-room = omega (arith, b, R.most-n, Q.compactable.vs-room);
        small =
            let B = between (form_of p) c.n c.m (bytes_in c.n vs') in
            omega (
              arith,
              R.most-n,
              R.most-m,
              Q.vertices,
              Q.edges,
              total,
              most.vertices,
              most.edges,
              most.bytes,
              B.whole_is,
              B.edges_most,
              B.bytes_most,
            );
      }

pub cleaned-answered : {p : List ℕ} {f : Form} → f ≡ form_of p → {h : Held} {es vs : List ℕ} {c : Held} {es' vs' out out' : List ℕ} {s : Answer}
    → Reduced clean_non_ref_paths h es vs c es' vs'
    → Responds (fits (length out) (encode f sequence_graph 0 (graph_of c es' vs' p))) out s out'
    → GraphAnswered cleaning_response h es vs p out s out'
unfolding cleaning_response record_refusal
cleaned-answered {p} {f} own {out = out} {out'} {s} R S = record {
  is = λ bs form z e. responds-as (respond-fits (record_causes sequence_only bs) (length out) (reduced_record bs) (record-numbered sequence_only bs) z)
      (subst (λ (l : List ℕ). Responds (fits (length out) l) out s out')
      (λ i. encode ((own ∙ form) i) sequence_graph 0 ((R.is p ∙ ap clean_non_ref_paths e) i)) S);
}

-- a record that is refused is refused by every call
clean-refused : (bs : List ℕ) (room : ℕ) {n : ℕ} → record_refusal sequence_only bs ≡ n → (n ≡ 0 → ⊥) → cleaning_response bs room ≡ refused n
unfolding cleaning_response record_refusal
clean-refused bs room {n} e o = respond-refused (record_causes sequence_only bs) room _ n e o

call-refused : (call : ReadingCall) (list bs : List ℕ) (room : ℕ) {n : ℕ} → record_refusal sequence_only bs ≡ n → (n ≡ 0 → ⊥)
    → reading_response call list bs room ≡ refused n
unfolding reading_response
call-refused CleanNonRefPaths list bs room e o = clean-refused bs room e o
call-refused ReferencePathBytes list bs room e o = reference-refused bs room e o
call-refused (PathBasesBytes start) list bs room e o = path-refused bs start list room e o

-- ---- the call that was asked for

module _ (call : ReadingCall) (list : List ℕ) {h : Held} {es vs p out : List ℕ} {s : Answer} {out' : List ℕ} where
  by_call : {which : ReadingCall} → call ≡ which → GraphAnswered (reading_response which list) h es vs p out s out'
      → GraphAnswered (reading_response call list) h es vs p out s out'
  by_call w G = subst (λ (y : ReadingCall). GraphAnswered (reading_response y list) h es vs p out s out') (sym w) G

  pub answer-cleaned : call ≡ CleanNonRefPaths → GraphAnswered cleaning_response h es vs p out s out' → GraphAnswered (reading_response call list) h es vs p out s out'
  unfolding reading_response
  answer-cleaned w G = by_call w G

  pub answer-reference : call ≡ ReferencePathBytes → GraphAnswered reference_response h es vs p out s out'
      → GraphAnswered (reading_response call list) h es vs p out s out'
  unfolding reading_response
  answer-reference w G = by_call w G

  pub answer-path : {start : ℕ} → call ≡ PathBasesBytes start → GraphAnswered (path_response start list) h es vs p out s out'
      → GraphAnswered (reading_response call list) h es vs p out s out'
  unfolding reading_response
  answer-path w G = by_call w G

-- ---- a record

module _ (call : ReadingCall) (list : List ℕ) {bs : List ℕ} {x : Result Held Refusal} {es vs : List ℕ} (A : ReadAs bs x es vs) {out : List ℕ} where
  pub record-refused : {n : Refusal} → x ≡ Err n → {s : Answer} → s ≡ record { number = number_of_refusal n; length = 0 }
      → Responds (reading_response call list bs (length out)) out s out
  record-refused {n} f a = responds-refused (call-refused call list bs (length out) (read_refusal A f) (some-number n)) a refl

  pub record-answered : {h : Held} → x ≡ Ok h → {s : Answer} {out' : List ℕ} → GraphAnswered (reading_response call list) h es vs bs out s out'
      → Responds (reading_response call list bs (length out)) out s out'
  record-answered {h} ok G = G.is bs refl (read_none A ok) (A.loaded h ok).is

-- ---- a caller

reference-within : (bs : List ℕ) (room caller : ℕ) → caller ≤ 15 → reference_path_bytes_response bs room caller ≡ reference_response bs room
unfolding reference_path_bytes_response reference_path_bytes_causes reference_response record_causes layout_causes
reference-within bs room caller l = respond-within caller _ _ l

path-within : (bs : List ℕ) (start : ℕ) (list : List ℕ) (room caller : ℕ) → caller ≤ 15
    → path_bases_bytes_response bs start list room caller ≡ path_response start list bs room
unfolding path_bases_bytes_response path_bases_bytes_causes path_response record_causes layout_causes
path-within bs start list room caller l = respond-within caller _ _ l

pub response-above : (call : ReadingCall) (list bs : List ℕ) (room caller : ℕ) → 15 < caller → reading_response_to call list bs room caller ≡ refused 18
unfolding reading_response_to clean_non_ref_paths_response clean_non_ref_paths_causes reference_path_bytes_response reference_path_bytes_causes path_bases_bytes_response path_bases_bytes_causes
response-above CleanNonRefPaths list bs room caller l = respond-above caller _ _ l
response-above ReferencePathBytes list bs room caller l = respond-above caller _ _ l
response-above (PathBasesBytes start) list bs room caller l = respond-above caller _ _ l

pub response-within : (call : ReadingCall) (list bs : List ℕ) (room caller : ℕ) → caller ≤ 15
    → reading_response_to call list bs room caller ≡ reading_response call list bs room
unfolding reading_response_to reading_response clean_non_ref_paths_response clean_non_ref_paths_causes cleaning_response
response-within CleanNonRefPaths list bs room caller l = respond-within caller _ _ l
response-within ReferencePathBytes list bs room caller l = reference-within bs room caller l
response-within (PathBasesBytes start) list bs room caller l = path-within bs start list room caller l

module _ (call : ReadingCall) (list bs : List ℕ) {out : List ℕ} {caller : ℕ} where
  pub caller-refused : 15 < caller → {s : Answer} → s ≡ record { number = 18; length = 0 }
      → Responds (reading_response_to call list bs (length out) caller) out s out
  caller-refused l a = responds-refused (response-above call list bs (length out) caller l) a refl

  pub caller-answered : {s : Answer} {out' : List ℕ} → caller ≤ 15 → Responds (reading_response call list bs (length out)) out s out'
      → Responds (reading_response_to call list bs (length out) caller) out s out'
  caller-answered l R = responds-as (response-within call list bs (length out) caller l) R
