-- `chain::trace_linear_chain` meets its contract.
use native.Mathlib.Omega.{arith}
use mathlib.Core.Path.{refl, sym, ◌∙◌}
use Prim.Native.Nat.{ℕ}
use mathlib.Core.Path.{subst}
use Rattle.chain.specs.Chain.{Traced}
use Rattle.chain.proofs.ChainLaws.{tracing-start, tracing-none, tracing-stop, tracing-more, tracing-end, one_out_lem}
use Rattle.chain.proofs.trace_linear_chain.Goals as goal

pub loop-c-init : goal.loop-c-init
loop-c-init c = tracing-start c.requires.1.1 c.requires.0

pub returns-then-not-has_one : goal.returns-then-not-has_one
returns-then-not-has_one c =
    tracing-none
    c.requires.1.1
    c.loop-c.invariant
    (omega arith)
    (sym c.if-not-has_one.true ∙ c.has_one.ensures)

pub edge_to-next-requires : goal.edge_to-next-requires
edge_to-next-requires c =
    omega (
      arith,
      one_out_lem c.requires.1.1 _ c.loop-c.invariant.last-below
          (sym c.if-not-has_one.false ∙ c.has_one.ensures),
      c.requires.1.1.room,
    )

pub chain_goes_on-requires : goal.chain_goes_on-requires
chain_goes_on-requires c = (
  c.loop-c.invariant.last-below,
  (
    omega (
      arith,
      c.edge_to-next.ensures,
      (c.requires.1.1.ends.at _ (one_out_lem c.requires.1.1 _ c.loop-c.invariant.last-below
          (sym c.if-not-has_one.false ∙ c.has_one.ensures))).1,
    ),
    c.requires.1.1,
  ),
)

pub returns-then-not-chain_goes_on : goal.returns-then-not-chain_goes_on
returns-then-not-chain_goes_on c =
    tracing-stop
    c.requires.1.1
    c.loop-c.invariant
    (omega arith)
    (one_out_lem c.requires.1.1 _ c.loop-c.invariant.last-below
    (sym c.if-not-has_one.false ∙ c.has_one.ensures)) refl
    c.edge_to-next.ensures
    c.chain_goes_on.ensures
    c.if-not-chain_goes_on.true

pub loop-c-preserved : goal.loop-c-preserved
loop-c-preserved c =
    tracing-more
    c.requires.1.1
    c.loop-c.invariant
    (omega arith)
    c.requires.1.0
    (one_out_lem c.requires.1.1 _ c.loop-c.invariant.last-below
    (sym c.if-not-has_one.false ∙ c.has_one.ensures)) refl
    c.edge_to-next.ensures
    c.chain_goes_on.ensures
    c.if-not-chain_goes_on.false

pub returns : goal.returns
returns c =
    subst
    (λ (x : ℕ). Traced c.args.m c.args.n c.args.es.now c.args.start x c.loop-c.out) (omega arith)
    (tracing-end c.requires.1.1 c.loop-c.invariant (omega arith))
