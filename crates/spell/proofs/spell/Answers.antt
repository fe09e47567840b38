-- `spell::spell` meets its contract.
use Rattle.spell.proofs.SpellLaws.{too_long}
use Rattle.spell.proofs.spell.Goals as goal

pub returns-then-out-len : goal.returns-then-out-len
returns-then-out-len c =
    too_long _ c.requires c.spelled_len-len.ensures c.if-out-len.true
