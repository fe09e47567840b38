-- What each turn of the loop keeps.
use native.Mathlib.Omega.{arith}
use Prim.Native.Nat.{◌+◌, ◌-◌}
use mathlib.Core.Path.{◌≡◌, sym, ◌∙◌}
use mathlib.Core.List.{◌++◌}
use Rattle.store.specs.Store.{part, seq_in}
use Rattle.pool.specs.Pool.{bytes_in}
use Rattle.pool.proofs.PoolLaws.{bytes_in-none, bytes_in-more, bytes_below}
use Rattle.tabs.proofs.SumTabs.{fields, fields-none, fields-more}
use Rattle.write_record.proofs.WriteLaws.{
  Growing,
  growing-start,
  growing-len,
  growing-more,
  growing-end,
  seqs-before,
}
use Rattle.write_record.proofs.put_sequences.Given as goal

abbrev pub invariant-loop-v : goal.invariant-loop-v
invariant-loop-v l = (l.to ≡ l.at + bytes_in l.v l.vs) × Growing l.n (fields (seq_in l.vs l.p)) l.initial.out l.at l.out l.v
