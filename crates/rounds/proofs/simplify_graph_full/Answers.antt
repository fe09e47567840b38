-- `rounds::simplify_graph_full` meets its contract.
use native.Mathlib.Omega.{arith}
use Rattle.rounds.proofs.FullLaws.{
  full-indexable,
  full-zip-ready,
  full-ready,
  full-countable,
  full-scratch,
  full-sig,
  full-all,
}
use Rattle.rounds.proofs.simplify_graph_full.Goals as goal

pub build_index-requires : goal.build_index-requires
build_index-requires c =
    full-indexable c.requires

pub zip_linear_chains-zipped-requires : goal.zip_linear_chains-zipped-requires
zip_linear_chains-zipped-requires c = (
  full-zip-ready c.requires c.build_index.ensures c.build_index.auto.heads
      c.build_index.auto.nexts,
  omega (arith, c.requires.scratch.starts-room, c.build_index.auto.heads),
)

pub simplify_rounds-requires : goal.simplify_rounds-requires
simplify_rounds-requires c = (
  full-ready c.requires c.build_index.ensures c.build_index.auto.heads
      c.build_index.auto.nexts c.zip_linear_chains-zipped.ensures
      c.zip_linear_chains-zipped.auto.heads,
  (
    full-countable c.requires c.build_index.ensures c.build_index.auto.heads
        c.build_index.auto.nexts c.zip_linear_chains-zipped.ensures
        c.zip_linear_chains-zipped.auto.heads,
    (
      full-scratch c.requires c.build_index.ensures c.build_index.auto.heads
          c.build_index.auto.nexts c.zip_linear_chains-zipped.ensures
          c.zip_linear_chains-zipped.auto.heads c.zip_linear_chains-zipped.auto.froms,
      full-sig c.requires c.build_index.ensures c.build_index.auto.heads
          c.build_index.auto.nexts c.zip_linear_chains-zipped.ensures
          c.zip_linear_chains-zipped.auto.heads c.zip_linear_chains-zipped.auto.nexts,
    ),
  ),
)

pub returns : goal.returns
returns c =
    full-all
    c.requires
    c.build_index.ensures
    c.build_index.auto.heads
    c.build_index.auto.nexts
    c.zip_linear_chains-zipped.ensures
    c.zip_linear_chains-zipped.auto.heads
    c.simplify_rounds.ensures
    c.zip_linear_chains-zipped.auto.nexts
