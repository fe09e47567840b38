-- `read_kmers::read_kmer_graph` meets its contract.
use Rattle.std.proofs.lemmas.Result.{err_from_is_err_and}
use Rattle.read_kmers.proofs.KmerLaws.{
  layout-none,
  layout-size,
  read-refused,
  read-loadable,
  read-indexable,
  read-markable,
  read-sortable,
  read-6,
  read-0,
}
use borrow.Author.Rules.{rules}
use Rattle.read_kmers.proofs.read_kmer_graph.Goals as goal

pub returns-in_err-k : goal.returns-in_err-k
returns-in_err-k c =
    let p = err_from_is_err_and c.from_residual.result c.from_residual.ensures.1 in
    rw (p.1, p.2) (read-refused c.args.rec.now c.check_layout.ensures c.in_err-k.was)

pub load_graph-held-requires : goal.load_graph-held-requires
load_graph-held-requires c = (
  layout-size c.args.rec.now c.check_layout.ensures c.in_ok-k.was,
  read-loadable c.args.rec.now
      (layout-none c.args.rec.now c.check_layout.ensures c.in_ok-k.was) c.requires,
)

pub build_index-requires : goal.build_index-requires
build_index-requires c =
    read-indexable
    c.args.rec.now
    (layout-none c.args.rec.now c.check_layout.ensures c.in_ok-k.was)
    c.requires
    c.load_graph-held.ensures
    c.load_graph-held.auto.es

pub is_doubled-requires : goal.is_doubled-requires
is_doubled-requires c = (
  c.build_index.ensures,
  (
    read-markable c.args.rec.now
        (layout-none c.args.rec.now c.check_layout.ensures c.in_ok-k.was) c.requires
        c.load_graph-held.ensures,
    read-sortable c.args.rec.now
        (layout-none c.args.rec.now c.check_layout.ensures c.in_ok-k.was) c.requires
        c.load_graph-held.ensures c.load_graph-held.auto.vs,
  ),
)

pub shape_of-es-then-is_doubled : goal.shape_of-es-then-is_doubled
shape_of-es-then-is_doubled c = c.load_graph-held.auto.es

pub shape_of-vs-then-is_doubled : goal.shape_of-vs-then-is_doubled
shape_of-vs-then-is_doubled c = c.load_graph-held.auto.vs

pub shape_of-heads-then-is_doubled : goal.shape_of-heads-then-is_doubled
shape_of-heads-then-is_doubled c = c.build_index.auto.heads

pub shape_of-nexts-then-is_doubled : goal.shape_of-nexts-then-is_doubled
shape_of-nexts-then-is_doubled c = c.build_index.auto.nexts

pub shape_of-order-then-is_doubled : goal.shape_of-order-then-is_doubled
shape_of-order-then-is_doubled c = c.is_doubled.auto.order

pub shape_of-scratch-then-is_doubled : goal.shape_of-scratch-then-is_doubled
shape_of-scratch-then-is_doubled c = c.is_doubled.auto.scratch

pub returns-then-is_doubled : goal.returns-then-is_doubled
returns-then-is_doubled c =
    read-6
    c.args.rec.now
    (layout-none c.args.rec.now c.check_layout.ensures c.in_ok-k.was)
    c.requires
    c.load_graph-held.ensures
    c.is_doubled.ensures
    c.if-is_doubled.true

pub shape_of-es : goal.shape_of-es
shape_of-es c = c.load_graph-held.auto.es

pub shape_of-vs : goal.shape_of-vs
shape_of-vs c = c.load_graph-held.auto.vs

pub shape_of-heads : goal.shape_of-heads
shape_of-heads c = c.build_index.auto.heads

pub shape_of-nexts : goal.shape_of-nexts
shape_of-nexts c = c.build_index.auto.nexts

pub shape_of-order : goal.shape_of-order
shape_of-order c = c.is_doubled.auto.order

pub shape_of-scratch : goal.shape_of-scratch
shape_of-scratch c = c.is_doubled.auto.scratch

pub returns : goal.returns
returns c =
    read-0
    c.args.rec.now
    (layout-none c.args.rec.now c.check_layout.ensures c.in_ok-k.was)
    c.requires
    c.load_graph-held.ensures
    c.is_doubled.ensures
    c.if-is_doubled.false
    c.build_index.ensures
