-- `accept::read_sequence_graph` meets its contract.
use Rattle.std.proofs.lemmas.Result.{err_from_is_err_and}
use Rattle.accept.proofs.AcceptLaws.{
  layout-none,
  layout-size,
  read-refused,
  read-loadable,
  read-indexable,
  read-markable,
  read-peelable,
  read-6,
  read-7,
  read-0,
}
use borrow.Author.Rules.{rules}
use Rattle.accept.proofs.read_sequence_graph.Goals as goal

pub returns-in_err-k : goal.returns-in_err-k
returns-in_err-k c =
    let p = err_from_is_err_and c.from_residual.result c.from_residual.ensures.1 in
    rw (p.1, p.2) (read-refused c.args.rec.now c.check_layout.ensures c.in_err-k.was)

pub load_graph-held-requires : goal.load_graph-held-requires
load_graph-held-requires c = (
  layout-size c.args.rec.now c.check_layout.ensures c.in_ok-k.was,
  read-loadable c.args.rec.now
      (layout-none c.args.rec.now c.check_layout.ensures c.in_ok-k.was) c.requires,
)

pub build_index-requires : goal.build_index-requires
build_index-requires c =
    read-indexable
    c.args.rec.now
    (layout-none c.args.rec.now c.check_layout.ensures c.in_ok-k.was)
    c.requires
    c.load_graph-held.ensures
    c.load_graph-held.auto.es

pub doubled_edge-requires : goal.doubled_edge-requires
doubled_edge-requires c = (
  c.build_index.ensures,
  read-markable c.args.rec.now
      (layout-none c.args.rec.now c.check_layout.ensures c.in_ok-k.was) c.requires c.load_graph-held.ensures,
)

pub returns-then-doubled_edge : goal.returns-then-doubled_edge
returns-then-doubled_edge c =
    read-6
    c.args.rec.now
    (layout-none c.args.rec.now c.check_layout.ensures c.in_ok-k.was)
    c.requires
    c.load_graph-held.ensures
    c.doubled_edge.ensures
    c.if-doubled_edge.true

pub has_cycle-requires : goal.has_cycle-requires
has_cycle-requires c = (
  c.build_index.ensures,
  (
    (read-indexable c.args.rec.now
        (layout-none c.args.rec.now c.check_layout.ensures c.in_ok-k.was) c.requires
        c.load_graph-held.ensures c.load_graph-held.auto.es).small,
    read-peelable c.args.rec.now
        (layout-none c.args.rec.now c.check_layout.ensures c.in_ok-k.was) c.requires
        c.load_graph-held.ensures c.doubled_edge.auto.marks,
  ),
)

pub returns-then-has_cycle : goal.returns-then-has_cycle
returns-then-has_cycle c =
    read-7
    c.args.rec.now
    (layout-none c.args.rec.now c.check_layout.ensures c.in_ok-k.was)
    c.requires
    c.load_graph-held.ensures
    c.doubled_edge.ensures
    c.if-doubled_edge.false
    c.has_cycle.ensures
    c.if-has_cycle.true

pub returns : goal.returns
returns c =
    read-0
    c.args.rec.now
    (layout-none c.args.rec.now c.check_layout.ensures c.in_ok-k.was)
    c.requires
    c.load_graph-held.ensures
    c.doubled_edge.ensures
    c.if-doubled_edge.false
    c.has_cycle.ensures
    c.if-has_cycle.false
