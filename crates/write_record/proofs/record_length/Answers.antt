-- `write_record::record_length` meets its contract.
use native.Mathlib.Omega.{arith}
use Rattle.form.specs.Coded.{form_is}
use Rattle.form.proofs.FormLaws.{between}
use Rattle.pool.specs.Pool.{bytes_in}
use Rattle.write_record.proofs.record_length.Goals as goal

pub bytes_at-requires : goal.bytes_at-requires
bytes_at-requires c = (
  omega (
    arith,
    c.requires.small,
    between (form_is c.args.form) c.args.held.n c.args.held.m
        (bytes_in c.args.held.n c.args.vs.now),
  ),
  omega (
    arith,
    c.requires.small,
    between (form_is c.args.form) c.args.held.n c.args.held.m
        (bytes_in c.args.held.n c.args.vs.now),
  ),
)

pub sequence_bytes-requires : goal.sequence_bytes-requires
sequence_bytes-requires c = (
  c.requires.vs-room,
  omega (
    arith,
    c.requires.small,
    between (form_is c.args.form) c.args.held.n c.args.held.m
        (bytes_in c.args.held.n c.args.vs.now),
  ),
)

pub overflow_add-result : goal.overflow_add-result
overflow_add-result c =
    omega (
      arith,
      c.requires.small,
      c.bytes_at.ensures,
      c.sequence_bytes.ensures,
      between (form_is c.args.form) c.args.held.n c.args.held.m
          (bytes_in c.args.held.n c.args.vs.now),
    )

pub returns : goal.returns
returns c =
    omega (
      arith,
      c.bytes_at.ensures,
      c.sequence_bytes.ensures,
      between (form_is c.args.form) c.args.held.n c.args.held.m
          (bytes_in c.args.held.n c.args.vs.now),
    )
