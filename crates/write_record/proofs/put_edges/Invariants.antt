-- What each turn of the loop keeps.
use native.Mathlib.Omega.{arith}
use Prim.Native.Nat.{ℕ, ◌-◌}
use Rattle.defs.specs.Record.{edges_at, encode_edge}
use mathlib.Core.Path.{◌∙◌}
use Rattle.form.specs.Coded.{form_is}
use Rattle.form.proofs.FormLaws.{edge-place}
use Rattle.store.specs.Store.{edge_in}
use Rattle.tabs.proofs.SumTabs.{fields, fields-none, fields-more}
use Rattle.write_record.proofs.WriteLaws.{
  Growing,
  growing-start,
  growing-len,
  growing-more,
  growing-end,
  edge-at-place,
}
use Rattle.write_record.proofs.put_edges.Given as goal

abbrev pub invariant-loop-i : goal.invariant-loop-i
invariant-loop-i l =
    Growing l.m (fields (λ (k : ℕ). encode_edge (form_is l.form) (edge_in l.es k))) l.initial.out (edges_at (form_is l.form) l.n) l.out l.i
