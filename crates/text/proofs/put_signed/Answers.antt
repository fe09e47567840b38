-- `text::put_signed` meets its contract.
use native.Mathlib.Omega.{arith}
use lib.ListN.{length-set}
use Rattle.text.proofs.SignLaws.{below-fits, below-cast, below_put, same-fits, same-put}
use Rattle.text.proofs.put_signed.Goals as goal

pub put_decimal-requires : goal.put_decimal-requires
put_decimal-requires c = simp length-set (omega arith)

pub shape_of-text-then-x-lt0 : goal.shape_of-text-then-x-lt0
shape_of-text-then-x-lt0 c = simp length-set at c.put_decimal.auto.text

pub overflow_sub-x : goal.overflow_sub-x
overflow_sub-x c = below-fits c.ranges.x c.requires.1 c.if-x-lt0.true

pub overflow_cast-x : goal.overflow_cast-x
overflow_cast-x c = below-cast c.ranges.x c.requires.1 c.if-x-lt0.true

pub returns-then-x-lt0 : goal.returns-then-x-lt0
returns-then-x-lt0 c = below_put c.ranges.x c.requires.1 c.if-x-lt0.true c.put_decimal.ensures

pub overflow_cast-x-2 : goal.overflow_cast-x-2
overflow_cast-x-2 c = same-fits c.ranges.x c.requires.1 c.if-x-lt0.false

pub returns : goal.returns
returns c = same-put c.ranges.x c.requires.1 c.if-x-lt0.false c.put_decimal-2.ensures
