-- `show::put_record` meets its contract.
use native.Mathlib.Omega.{arith}
use Rattle.show.proofs.ShowLaws.{recorded-few, recorded-headed}
use Rattle.show.proofs.put_record.Goals as goal

pub vertex_count-requires : goal.vertex_count-requires
vertex_count-requires c = recorded-headed c.requires.0 c.form_of-form.ensures

pub edge_count-requires : goal.edge_count-requires
edge_count-requires c =
    recorded-headed c.requires.0 c.form_of-form.ensures

pub put_in-requires : goal.put_in-requires
put_in-requires c = (c.requires.0, (c.requires.1, (recorded-few c.requires.0, (omega arith, omega arith))))
