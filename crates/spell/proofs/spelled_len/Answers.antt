-- `spell::spelled_len` meets its contract.
use native.Mathlib.Omega.{arith}
use Rattle.spell.proofs.SpellLaws.{adding-start, adding-small, adding-more, adding-end}
use Rattle.spell.proofs.spelled_len.Goals as goal

pub loop-v-init : goal.loop-v-init
loop-v-init c = adding-start _ _ _

pub overflow_add-len : goal.overflow_add-len
overflow_add-len c = omega (arith, adding-small c.requires c.loop-v.invariant c.loop-v-test.true c.vertex_len-len.ensures)

pub loop-v-preserved : goal.loop-v-preserved
loop-v-preserved c = adding-more c.requires c.loop-v.invariant c.loop-v-test.true c.vertex_len-len.ensures

pub returns : goal.returns
returns c = adding-end c.requires c.loop-v.invariant c.loop-v.auto.v-index-end c.loop-v-test.false
