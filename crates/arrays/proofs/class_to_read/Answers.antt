-- `arrays::class_to_read` meets its contract.
use mathlib.Core.Path.{sym, ◌∙◌}
use native.Mathlib.Omega.{arith}
use Rattle.form.proofs.FormLaws.{is-1}
use Rattle.arrays.specs.Classes.{vertices_to_read, edges_to_read}
use Rattle.arrays.proofs.SizedLaws.{all-to-read, first-to-read, short-to-read, counted-to-read, class-to-read, long-headed}
use Rattle.arrays.proofs.class_to_read.Goals as goal

pub returns-then-rec-le-SMALL_RECORD : goal.returns-then-rec-le-SMALL_RECORD
unfolding vertices_to_read edges_to_read
returns-then-rec-le-SMALL_RECORD c = short-to-read _ c.if-rec-le-SMALL_RECORD.true

pub vertex_count-v-requires : goal.vertex_count-v-requires
vertex_count-v-requires c = long-headed _ c.form_of-form.ensures c.if-rec-le-SMALL_RECORD.false

pub edge_count-e-requires : goal.edge_count-e-requires
edge_count-e-requires c = long-headed _ c.form_of-form.ensures c.if-rec-le-SMALL_RECORD.false

pub returns-then-e-le-FEW_EDGES : goal.returns-then-e-le-FEW_EDGES
unfolding vertices_to_read edges_to_read
returns-then-e-le-FEW_EDGES c =
    class-to-read
    (counted-to-read _
    (omega (arith, c.vertex_count-v.ensures.0))
    (omega (arith, c.edge_count-e.ensures.0)))
    (omega arith)
    (omega arith)
    (omega arith)

pub returns-in-Sgr1 : goal.returns-in-Sgr1
unfolding vertices_to_read edges_to_read
returns-in-Sgr1 c = first-to-read _ (sym c.form_of-form.ensures ∙ is-1 _ c.in-Sgr1.is)

pub returns-in-Sgr2 : goal.returns-in-Sgr2
unfolding vertices_to_read edges_to_read
returns-in-Sgr2 c =
    class-to-read
    (counted-to-read _
    (omega (arith, c.vertex_count-v.ensures.0))
    (omega (arith, c.edge_count-e.ensures.0)))
    (omega arith)
    (omega arith)
    (omega arith)

pub returns-in-Sgr2-2 : goal.returns-in-Sgr2-2
unfolding vertices_to_read edges_to_read
returns-in-Sgr2-2 c = all-to-read _

pub returns-in-Sgr2-2-2 : goal.returns-in-Sgr2-2-2
unfolding vertices_to_read edges_to_read
returns-in-Sgr2-2-2 c = all-to-read _
