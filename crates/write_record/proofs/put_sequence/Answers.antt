-- `write_record::put_sequence` meets its contract.
use native.Mathlib.Omega.{arith}
use mathlib.Core.Path.{◌∙◌}
use Rattle.le.proofs.Parts.{put_mid-sets}
use Rattle.pool.proofs.PoolLaws.{part-cut}
use Rattle.store.proofs.VertexLaws.{part-long}
use Rattle.store.specs.Store.{part}
use Rattle.write_record.proofs.put_sequence.Goals as goal

pub returns : goal.returns
returns c =
    put_mid-sets _ _ _ _
    (part c.args.p.now c.args.start c.args.len)
    (c.copy.ensures ∙ part-cut c.args.p.now c.args.start c.args.len)
    (omega (arith, part-long c.args.p.now c.args.start c.args.len c.requires.1))
    (omega arith)
