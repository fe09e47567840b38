-- `load::load_pool` meets its contract.
use native.Mathlib.Omega.{arith}
use mathlib.Core.Path.{refl}
use Rattle.record.proofs.Fields.{bytes-at-read}
use Rattle.load.proofs.LoadLaws.{laid-headed, laid-length, laid-least, pooled}
use borrow.Author.Rules.{rules}
use Rattle.load.proofs.load_pool.Goals as goal

pub byte_count-b-requires : goal.byte_count-b-requires
byte_count-b-requires c = laid-headed c.requires.laid c.form_of-form.ensures

pub bytes_at-requires : goal.bytes_at-requires
bytes_at-requires c = (
  omega (arith, c.requires.n, laid-least c.requires.laid, c.requires.laid.small),
  omega (arith, c.requires.m, laid-least c.requires.laid, c.requires.laid.small),
)

pub load_bytes-requires : goal.load_bytes-requires
load_bytes-requires c = (
  omega (
    arith,
    laid-length c.requires.laid,
    c.byte_count-b.ensures.0,
    bytes-at-read _ _ c.form_of-form.ensures c.bytes_at.ensures c.requires.n c.requires.m,
  ),
  omega (arith, c.requires.p-room, c.byte_count-b.ensures.0),
)

pub returns : goal.returns
returns c =
    pooled
    c.requires
    c.load_bytes.auto.p refl refl refl
    c.byte_count-b.ensures.0
    c.load_vertices.ensures
    (bytes-at-read _ _ c.form_of-form.ensures c.bytes_at.ensures c.requires.n c.requires.m)
    c.load_bytes.ensures
