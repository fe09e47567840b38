-- `rounds::simplify_rounds` meets its contract.
use native.Mathlib.Omega.{arith}
use mathlib.Core.Path.{sym, ◌∙◌, subst}
use Prim.Native.Nat.{ℕ}
use Rattle.rounds.specs.Rounds.{ended, Whole}
use Rattle.rounds.proofs.RoundLaws.{rounding-start, round-countable, round-quiet, round-early, round-writable, round-repeated, round-on, round-full}
use Rattle.rounds.proofs.simplify_rounds.Goals as goal
use Rattle.rounds.proofs.simplify_rounds.Goals.{then-n-ge6+else-s, else-n-ge6}

pub loop-n-init : goal.loop-n-init
loop-n-init c = rounding-start c.requires.0

pub simplify_graph_once-w-requires : goal.simplify_graph_once-w-requires
simplify_graph_once-w-requires c = (
  c.loop-n.invariant.ready,
  (
    round-countable c.loop-n.invariant (omega arith) c.requires.1.0,
    record {
      starts-room = omega (
        arith,
        c.requires.1.1.0.starts-room,
        c.loop-n.auto.heads,
        c.loop-n.auto.starts,
      );
      tried-room = omega (
        arith,
        c.requires.1.1.0.tried-room,
        c.loop-n.auto.heads,
        c.loop-n.auto.tried,
      );
    },
  ),
)

pub returns-then-w-before : goal.returns-then-w-before
returns-then-w-before c =
    rw
    c.end_with.ensures
    (round-quiet c.loop-n.invariant (omega arith) c.simplify_graph_once-w.ensures
    c.simplify_graph_once-w.auto.heads
    (sym (c.simplify_graph_once-w.auto.heads ∙ c.loop-n.auto.heads))
    (sym (c.simplify_graph_once-w.auto.nexts ∙ c.loop-n.auto.nexts))
    c.if-w-before.true)

pub replace_signature-s-requires : goal.replace_signature-s-requires
replace_signature-s-requires c =
    round-writable
    c.loop-n.invariant
    (omega arith)
    c.simplify_graph_once-w.ensures
    c.simplify_graph_once-w.auto.heads
    c.if-w-before.false
    (omega (
      arith,
      c.requires.1.1.1,
      c.simplify_graph_once-w.auto.heads,
      c.loop-n.auto.heads,
      c.simplify_graph_once-w.auto.nexts,
      c.loop-n.auto.nexts,
    ))

pub returns-then-s : goal.returns-then-s
returns-then-s c =
    rw
    c.end_with-then-s.ensures
    (round-repeated c.loop-n.invariant (omega arith)
    c.simplify_graph_once-w.ensures c.simplify_graph_once-w.auto.heads
    c.if-w-before.false (omega arith) c.replace_signature-s.ensures
    (sym (c.simplify_graph_once-w.auto.heads ∙ c.loop-n.auto.heads))
    (sym (c.simplify_graph_once-w.auto.nexts ∙ c.loop-n.auto.nexts))
    c.if-s.true)

pub loop-n-preserved : goal.loop-n-preserved
loop-n-preserved c = elim c.if-n-ge6.branch [
  | then-n-ge6+else-s w ↦ rw (w.sig-is, w.old-is)
      (round-on c.loop-n.invariant (omega arith) c.simplify_graph_once-w.ensures c.simplify_graph_once-w.auto.heads c.if-w-before.false (omega arith)
      w.replace_signature-s.ensures w.if-s.false w.replace_signature-s.auto.sig)
  | else-n-ge6 w ↦ rw (w.sig-is, w.old-is)
      (round-early c.loop-n.invariant (omega arith) c.simplify_graph_once-w.ensures c.simplify_graph_once-w.auto.heads c.if-w-before.false (omega arith))
]

pub returns : goal.returns
returns c =
    rw
    c.end_with-2.ensures
    (subst (λ (x : ℕ). Whole c.args.least c.args.work c.args.es.now c.args.vs.now c.args.p.now c.args.heads.now c.args.nexts.now
    (ended c.loop-n.w x 3) c.loop-n.es c.loop-n.vs c.loop-n.p) (omega arith)
    (round-full c.loop-n.invariant (omega arith) (sym c.loop-n.auto.heads) (sym c.loop-n.auto.nexts)))
