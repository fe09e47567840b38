-- What was rewritten is sent. Assumes nothing.
use mathlib.Core.Path.{◌≡◌, refl, sym, ap, ◌∙◌, subst}
use mathlib.Core.List.{List}
use Prim.Native.Nat.{ℕ, ◌+◌, ◌/◌, ◌≤◌, ◌<◌}
use native.Mathlib.Omega.{arith}
use lib.ListN.{length}
use Rattle.defs.specs.SeqGraph.{Graph}
use Rattle.defs.specs.Cleanup.{Status, just_reference, some_variation, status_number, cleanup_seq_graph}
use Rattle.defs.specs.Forms.{Form, form_of}
use Rattle.defs.specs.Record.{sequence_graph, vertices_of, edges_of, bytes_of, encode, decode}
use Rattle.defs.specs.Refusals.{sequence_only, record_causes, record_refusal}
use Rattle.memory.specs.Memory.{graph_of}
use Rattle.memory.specs.declared.Held.{Held}
use Rattle.memory.proofs.RoomLaws.{room-kept}
use Rattle.std.specs.Prelude.{Ok, Err}
use Rattle.std.specs.Prelude as std
use Rattle.refusal.specs.Refusals.{number_of_refusal}
use Rattle.refusal.specs.declared.Refusal.{Refusal}
use Rattle.refusal.proofs.RefusalLaws.{some-number, refused-number, made-number}
use Rattle.rewriting.specs.Rewriting.{Result, result_of, HeldAs, GraphRewritten}
use Rattle.rewriting.specs.declared.Rewritten.{Rewritten}
use Rattle.rewriting.specs.declared.RewritingCall.{RewritingCall}
use Rattle.rewriting.specs.declared.RewritingCall.TheVariants.{SimplifyGraph, CleanupSeqGraph}
use Rattle.rewriting.proofs.RewritingLaws.{lent-cleanable}
use Rattle.arrays.specs.Sized.{ClassToRewrite, Lent}
use Rattle.arrays.proofs.SizedLaws.{counts-read, counted-to-rewrite, both-class}
use Rattle.calls.specs.Sending.{fits, Sendable, Responds}
use Rattle.calls.specs.declared.Answer.{Answer}
use Rattle.calls.proofs.SendLaws.{held-sendable, responds-refused, responds-as}
use Rattle.calls.proofs.ResponseLaws.{respond-refused, respond-fits}
use Rattle.calls.proofs.CauseLaws.{record-numbered}
use Rattle.calls.proofs.CallerLaws.{respond-above, sends-within}
use Rattle.rewriting_calls.specs.declared.RewritingAnswer.{RewritingAnswer}
use Rattle.rewriting_calls.specs.Answered.{record_of, HeldAnswerable, HeldAnswered, RewritingAnswered, RewritingAnsweredTo}

status-small : (s : Status) → status_number s < 256
unfolding status_number
status-small just_reference = omega arith
status-small some_variation = omega arith

result-small : (call : RewritingCall) (g : Graph) → (result_of call g).status < 256
unfolding result_of
result-small SimplifyGraph g = omega arith
result-small CleanupSeqGraph g = status-small (cleanup_seq_graph g).status

-- ---- a graph

-- what is lent is room enough to answer what is held, when it was written to
pub lent-answerable : {bs es vs p heads nexts nodes mp starts tried sig es' vs' p' heads' nexts' nodes' mp' : List ℕ}
    → Lent bs es vs p heads nexts nodes mp starts tried sig → length es' ≡ length es → length vs' ≡ length vs → length p' ≡ length p
    → length heads' ≡ length heads → length nexts' ≡ length nexts → length nodes' ≡ length nodes → length mp' ≡ length mp
    → {x : std.Result Held Refusal} → HeldAs bs heads' nexts' x es' vs' p' → {h : Held} → x ≡ Ok h → {f : Form} → f ≡ form_of bs
    → HeldAnswerable f h es' vs' p' heads' nexts' nodes' mp' starts tried sig
lent-answerable Z a b c d e f g A {h} ok form =
    let F = Z.graph.fits in
    record {
      cleanable = lent-cleanable Z a b c d e f g (A.holds h ok);
      fits = record {
        vertices = rw (d, form) F.vertices;
        edges = rw (e, form) F.edges;
        vertices-most = rw d F.vertices-most;
        edges_most = rw e F.edges_most;
      };
    }

module _ {call : RewritingCall} {h : Held} {es vs p heads nexts : List ℕ} {r : Rewritten} {es' vs' p' : List ℕ}
    (G : GraphRewritten call h es vs p heads nexts r es' vs' p') where
  -- the record of what it became can be written where it fits
  pub rewritten-sendable : {f : Form} {nodes mp starts tried sig : List ℕ} → HeldAnswerable f h es vs p heads nexts nodes mp starts tried sig
      → length es' ≡ length es → length vs' ≡ length vs → length p' ≡ length p → Sendable f r.status r.held es' vs' p'
  rewritten-sendable {f} {nodes} {mp} Q a b c =
      held-sendable r.status (omega (arith, ap (λ (z : Result). z.status) G.is, result-small call (graph_of h es vs p)))
      Q.fits
      (room-kept {heads' = heads} {nexts' = nexts} {nodes' = nodes} {mp' = mp} Q.cleanable.room a b c refl refl refl refl) G.holds

  pub held-answered : {f : Form} {out out' : List ℕ} {s : Answer}
      → Responds (fits (length out) (encode f sequence_graph r.status (graph_of r.held es' vs' p'))) out s out'
      → HeldAnswered call f h es vs p out record { sent = s; status = r.status; rewrites = r.rewrites; rounds = r.rounds; end = r.end } out'
  unfolding record_refusal
  held-answered {f} {out} {out'} {s} S = record {
    is = λ bs form z e. let q = G.is ∙ ap (result_of call) e in record {
      sent = responds-as (respond-fits (record_causes sequence_only bs) (length out) (record_of (form_of bs) (result_of call (decode bs))) (record-numbered sequence_only bs) z)
          (sent-as bs form q S);
      counted = λ _. record {
        status = ap (λ (x : Result). x.status) q;
        rewrites = ap (λ (x : Result). x.rewrites) q;
        rounds = ap (λ (x : Result). x.rounds) q;
        end = ap (λ (x : Result). x.end) q;
      };
    };
  }
    where
      sent-as : (bs : List ℕ) → f ≡ form_of bs → {y z : Result} → y ≡ z → Responds (fits (length out) (record_of f y)) out s out'
          → Responds (fits (length out) (record_of (form_of bs) z)) out s out'
      sent-as bs e q R = subst (λ (l : List ℕ). Responds (fits (length out) l) out s out') (λ i. record_of (e i) (q i)) R

-- ---- a record

module _ {call : RewritingCall} {bs heads nexts : List ℕ} {x : std.Result Held Refusal} {es vs p : List ℕ} (A : HeldAs bs heads nexts x es vs p) {out : List ℕ} where
  pub record-refused : {n : Refusal} → x ≡ Err n → {r : RewritingAnswer} → r.sent ≡ record { number = number_of_refusal n; length = 0 }
      → RewritingAnswered call bs out r out
  unfolding record_refusal
  record-refused {n} f {r} q =
      let o = some-number n in
      let e = sym A.number ∙ refused-number f in
      record {
        sent = responds-refused (respond-refused (record_causes sequence_only bs) (length out) _ (number_of_refusal n) e o) q refl;
        counted = λ z. absurd (o (sym (ap (λ (y : Answer). y.number) q) ∙ z));
      }

  pub record-answered : {h : Held} → x ≡ Ok h → {f : Form} → f ≡ form_of bs → {r : RewritingAnswer} {out' : List ℕ}
      → HeldAnswered call f h es vs p out r out' → RewritingAnswered call bs out r out'
  record-answered {h} ok e H = H.is bs e (sym A.number ∙ made-number ok) (A.is h ok)

-- ---- a class

-- by the counts of the record: n vertices, m edges and b bytes
pub counted-class : (bs : List ℕ) {n m b v e : ℕ} → n ≡ vertices_of bs → m ≡ edges_of bs → b ≡ bytes_of bs → n + b < v → m + b / 4 + v ≤ e → e < 65536
    → ClassToRewrite v e bs
counted-class bs p q r few few-edges small = both-class (counted-to-rewrite bs (counts-read bs p q r) few few-edges) (omega (arith, few-edges)) small

-- ---- a caller

module _ {call : RewritingCall} {bs out : List ℕ} {caller : ℕ} where
  pub caller-refused : 15 < caller → {r : RewritingAnswer} → r.sent ≡ record { number = 18; length = 0 } → RewritingAnsweredTo call bs out caller r out
  caller-refused l q = record {
    sent = responds-refused (respond-above caller _ _ l) q refl;
    counted = λ z. absurd (omega (arith, sym (ap (λ (y : Answer). y.number) q) ∙ z));
  }

  pub caller-answered : {r : RewritingAnswer} {out' : List ℕ} → caller ≤ 15 → RewritingAnswered call bs out r out' → RewritingAnsweredTo call bs out caller r out'
  caller-answered l A = record { sent = sends-within _ _ l A.sent; counted = A.counted }
