-- `write_record::put_edges` meets its contract.
use native.Mathlib.Omega.{arith}
use Prim.Native.Nat.{ℕ, ◌-◌}
use Rattle.defs.specs.Record.{edges_at, encode_edge}
use mathlib.Core.Path.{◌∙◌}
use Rattle.form.specs.Coded.{form_is}
use Rattle.form.proofs.FormLaws.{edge-place}
use Rattle.store.specs.Store.{edge_in}
use Rattle.tabs.proofs.SumTabs.{fields, fields-none, fields-more}
use Rattle.write_record.proofs.WriteLaws.{
  Growing,
  growing-start,
  growing-len,
  growing-more,
  growing-end,
  edge-at-place,
}
use Rattle.write_record.proofs.put_edges.Goals as goal

pub loop-i-init : goal.loop-i-init
loop-i-init c =
    growing-start (fields-none (λ (k : ℕ). encode_edge (form_is c.args.form) (edge_in c.args.es.now k)))

pub put_edge-requires : goal.put_edge-requires
put_edge-requires c =
    record {
      es-room = omega (arith, c.requires.es-room);
      room = omega (
        arith,
        c.requires.room,
        growing-len c.loop-i.invariant,
        c.bytes_at.ensures,
        edge-place c.args.n c.args.m c.loop-i.i (form_is c.args.form)
            c.loop-i-test.true,
      );
      from = (c.requires.fits.at _ c.loop-i-test.true).0;
      to = (c.requires.fits.at _ c.loop-i-test.true).1;
    }

pub loop-i-preserved : goal.loop-i-preserved
loop-i-preserved c =
    growing-more _ _
    c.loop-i.invariant
    c.loop-i-test.true
    (fields-more (λ (k : ℕ). encode_edge (form_is c.args.form) (edge_in c.args.es.now k))
    c.loop-i.i)
    (c.bytes_at.ensures ∙ edge-at-place (form_is c.args.form) c.args.n c.args.es.now
    c.loop-i.i)
    c.put_edge.ensures
