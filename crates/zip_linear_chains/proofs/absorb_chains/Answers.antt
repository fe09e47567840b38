-- `zip_linear_chains::absorb_chains` meets its contract.
use native.Mathlib.Omega.{arith}
use Rattle.zip_linear_chains.proofs.AllAbsorbedLaws.{loop-start, loop-ready, loop-more, loop-end}
use Rattle.zip_linear_chains.proofs.absorb_chains.Goals as goal

pub loop-v-init : goal.loop-v-init
loop-v-init c =
    loop-start
    c.requires.0
    c.requires.1.0
    c.requires.1.1.0
    c.requires.1.1.1.0
    c.requires.1.1.1.1

pub absorb_chain-all-requires : goal.absorb_chain-all-requires
absorb_chain-all-requires c =
    loop-ready
    c.requires.0
    c.requires.1.0
    c.requires.1.1.0
    c.requires.1.1.1.0
    c.requires.1.1.1.1
    c.loop-v.invariant
    (omega arith)

pub loop-v-preserved : goal.loop-v-preserved
loop-v-preserved c =
    loop-more
    c.requires.0
    c.requires.1.0
    c.requires.1.1.0
    c.requires.1.1.1.0
    c.requires.1.1.1.1
    c.loop-v.invariant
    (omega arith)
    c.absorb_chain-all.ensures
    c.absorb_chain-all.auto.vs
    c.absorb_chain-all.auto.p
    c.absorb_chain-all.auto.nodes
    c.absorb_chain-all.auto.rest
    c.absorb_chain-all.auto.froms

pub returns : goal.returns
returns c =
    loop-end
    c.requires.0
    c.requires.1.0
    c.requires.1.1.0
    c.requires.1.1.1.0
    c.requires.1.1.1.1
    c.loop-v.invariant
    (omega arith)
