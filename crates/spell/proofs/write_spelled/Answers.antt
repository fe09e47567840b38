-- `spell::write_spelled` meets its contract.
use Rattle.spell.proofs.SpellLaws.{spelling-start, spelling-puttable, spelling-more, spelling-end}
use Rattle.spell.proofs.write_spelled.Goals as goal

pub loop-v-init : goal.loop-v-init
loop-v-init c = spelling-start _ _ _ _ _

pub put_sequence-at-requires : goal.put_sequence-at-requires
put_sequence-at-requires c = spelling-puttable c.requires.0 c.requires.1 c.loop-v.invariant c.loop-v-test.true

pub loop-v-preserved : goal.loop-v-preserved
loop-v-preserved c =
    spelling-more
    c.requires.0
    c.requires.1
    c.loop-v.invariant
    c.loop-v-test.true
    c.put_sequence-at.ensures
    c.put_sequence-at.auto.out

pub returns : goal.returns
returns c = spelling-end c.requires.0 c.requires.1 c.loop-v.invariant c.loop-v.auto.v-index-end c.loop-v-test.false
