-- `write_record::put_header` meets its contract.
use native.Mathlib.Omega.{arith}
use mathlib.Core.Path.{refl}
use Rattle.form.specs.Coded.{form_is}
use Rattle.form.proofs.FormLaws.{sizes, between}
use Rattle.write_record.proofs.WriteLaws.{header-put}
use borrow.Author.Rules.{rules}
use Rattle.write_record.proofs.put_header.Goals as goal

pub put_kind-requires : goal.put_kind-requires
put_kind-requires c =
    (omega (arith, c.requires.0, (sizes (form_is c.args.form)).header-least), c.requires.1.0)

pub edges_at-edges-requires : goal.edges_at-edges-requires
edges_at-edges-requires c =
    omega (
      arith,
      c.requires.1.1.whole-fits,
      between (form_is c.args.form) c.args.n c.args.m c.args.b,
    )

pub bytes_at-bytes-requires : goal.bytes_at-bytes-requires
bytes_at-bytes-requires c = (
  omega (
    arith,
    c.requires.1.1.whole-fits,
    between (form_is c.args.form) c.args.n c.args.m c.args.b,
  ),
  omega (
    arith,
    c.requires.1.1.whole-fits,
    between (form_is c.args.form) c.args.n c.args.m c.args.b,
  ),
)

pub overflow_add-whole : goal.overflow_add-whole
overflow_add-whole c =
    omega (
      arith,
      c.requires.1.1.whole-fits,
      between (form_is c.args.form) c.args.n c.args.m c.args.b,
      c.bytes_at-bytes.ensures,
    )

pub overflow_cast-edges : goal.overflow_cast-edges
overflow_cast-edges c =
    omega (
      arith,
      c.requires.1.1.whole-fits,
      between (form_is c.args.form) c.args.n c.args.m c.args.b,
      c.edges_at-edges.ensures,
    )

pub overflow_cast-bytes : goal.overflow_cast-bytes
overflow_cast-bytes c =
    omega (
      arith,
      c.requires.1.1.whole-fits,
      between (form_is c.args.form) c.args.n c.args.m c.args.b,
      c.bytes_at-bytes.ensures,
    )

pub overflow_cast-whole : goal.overflow_cast-whole
overflow_cast-whole c =
    omega (
      arith,
      c.requires.1.1.whole-fits,
      between (form_is c.args.form) c.args.n c.args.m c.args.b,
      c.bytes_at-bytes.ensures,
    )

pub returns : goal.returns
returns c =
    header-put _
    c.args.status
    c.args.k.0
    c.args.n
    c.args.m
    c.args.b
    c.args.out.now
    c.edges_at-edges.ensures
    c.bytes_at-bytes.ensures
    (omega (
      arith,
      (between (form_is c.args.form) c.args.n c.args.m c.args.b).whole_is,
      c.bytes_at-bytes.ensures,
    ))
    c.put_kind.ensures
    c.put_counts.ensures
    c.put_offsets.ensures
