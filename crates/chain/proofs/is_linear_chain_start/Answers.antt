-- `chain::is_linear_chain_start` meets its contract.
use native.Mathlib.Omega.{arith}
use mathlib.Core.Path.{sym, ◌∙◌}
use Rattle.chain.proofs.ChainLaws.{start-no, start-yes, start-by, one-head}
use Rattle.chain.proofs.is_linear_chain_start.Goals as goal

pub returns-then-not-has_one : goal.returns-then-not-has_one
returns-then-not-has_one c =
    start-no c.requires.1 _ c.requires.0 (sym c.if-not-has_one.true ∙ c.has_one.ensures)

pub returns-then-not-has_one-2 : goal.returns-then-not-has_one-2
returns-then-not-has_one-2 c =
    start-yes
    c.requires.1 _
    c.requires.0
    (sym c.if-not-has_one.false ∙ c.has_one.ensures)
    (sym c.if-not-has_one-2.true ∙ c.has_one-2.ensures)

pub edge_from-u-requires : goal.edge_from-u-requires
edge_from-u-requires c =
    omega (
      arith,
      one-head 1 (omega arith) c.requires.1 _ c.requires.0
          (sym c.if-not-has_one-2.false ∙ c.has_one-2.ensures),
      c.requires.1.room,
    )

pub has_several-requires : goal.has_several-requires
has_several-requires c = (
  omega (
    arith,
    c.edge_from-u.ensures,
    (c.requires.1.ends.at _ (one-head 1 (omega arith) c.requires.1 _ c.requires.0
        (sym c.if-not-has_one-2.false ∙ c.has_one-2.ensures))).0,
  ),
  (omega arith, c.requires.1),
)

pub returns : goal.returns
returns c =
    start-by
    c.requires.1 _
    c.requires.0 _
    (sym c.if-not-has_one.false ∙ c.has_one.ensures)
    (sym c.if-not-has_one-2.false ∙ c.has_one-2.ensures)
    c.edge_from-u.ensures
    c.has_several.ensures
