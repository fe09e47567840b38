-- `zip_linear_chains::absorb_chain` meets its contract.
use native.Mathlib.Omega.{arith}
use Rattle.zip_linear_chains.proofs.AbsorbLaws.{absorb-no-start, absorb-none, fit-nodes, absorb-writable, end-high, absorb-done}
use Rattle.zip_linear_chains.proofs.absorb_chain.Goals as goal

pub returns-then-not-is_linear_chain_start : goal.returns-then-not-is_linear_chain_start
returns-then-not-is_linear_chain_start c = absorb-no-start c.requires c.is_linear_chain_start.ensures c.if-not-is_linear_chain_start.true

pub returns-then-c-eq0 : goal.returns-then-c-eq0
returns-then-c-eq0 c =
    absorb-none
    c.requires
    c.is_linear_chain_start.ensures
    c.if-not-is_linear_chain_start.false
    c.trace_linear_chain-c.ensures
    c.if-c-eq0.true

pub write_chain-end-requires : goal.write_chain-end-requires
write_chain-end-requires c =
    absorb-writable
    c.requires
    c.is_linear_chain_start.ensures
    c.if-not-is_linear_chain_start.false
    c.trace_linear_chain-c.ensures
    c.if-c-eq0.false
    c.trace_linear_chain-c.auto.out

pub overflow_cast-end : goal.overflow_cast-end
overflow_cast-end c =
    omega (
      arith,
      end-high c.requires c.is_linear_chain_start.ensures c.if-not-is_linear_chain_start.false
          c.trace_linear_chain-c.ensures c.if-c-eq0.false
          c.trace_linear_chain-c.auto.out c.write_chain-end.ensures,
      c.requires.p-small,
    )

pub append_nodes-requires : goal.append_nodes-requires
append_nodes-requires c = (
  omega (
    arith,
    fit-nodes c.requires c.is_linear_chain_start.ensures c.if-not-is_linear_chain_start.false
        c.trace_linear_chain-c.ensures c.if-c-eq0.false
        c.trace_linear_chain-c.auto.out,
    c.requires.nodes-room,
  ),
  omega (
    arith,
    c.trace_linear_chain-c.ensures.most,
    c.requires.rest-room,
    c.trace_linear_chain-c.auto.out,
  ),
)

pub overflow_add-result : goal.overflow_add-result
overflow_add-result c =
    omega (
      arith,
      c.requires.small,
      fit-nodes c.requires c.is_linear_chain_start.ensures c.if-not-is_linear_chain_start.false
          c.trace_linear_chain-c.ensures c.if-c-eq0.false
          c.trace_linear_chain-c.auto.out,
    )

pub returns : goal.returns
returns c =
    absorb-done
    c.requires
    c.is_linear_chain_start.ensures
    c.if-not-is_linear_chain_start.false
    c.trace_linear_chain-c.ensures
    c.if-c-eq0.false
    c.trace_linear_chain-c.auto.out
    c.write_chain-end.ensures
    c.write_chain-end.auto.p
    c.put_vertex.ensures
    c.append_nodes.ensures
    c.hand_over.ensures
    (omega arith)
    (omega arith)
