-- `write_record::put_offsets` meets its contract.
use native.Mathlib.Omega.{arith}
use Rattle.form.specs.Coded.{form_is}
use Rattle.form.proofs.FormLaws.{sizes}
use Rattle.write_record.proofs.WriteLaws.{offsets-put}
use borrow.Author.Rules.{rules}
use Rattle.write_record.proofs.put_offsets.Goals as goal

pub overflow_sub-header : goal.overflow_sub-header
overflow_sub-header c = omega (arith, c.lengths_at-header.ensures, (sizes (form_is c.args.form)).header-least)

pub overflow_cast-header : goal.overflow_cast-header
overflow_cast-header c = omega (arith, c.lengths_at-header.ensures, (sizes (form_is c.args.form)).header-most)

pub put_u32-requires : goal.put_u32-requires
put_u32-requires c =
    omega (arith, c.requires, c.lengths_at-header.ensures, (sizes (form_is c.args.form)).header-least)

pub overflow_sub-header-2 : goal.overflow_sub-header-2
overflow_sub-header-2 c = omega (arith, c.lengths_at-header.ensures, (sizes (form_is c.args.form)).header-least)

pub put_u32-requires-2 : goal.put_u32-requires-2
put_u32-requires-2 c =
    omega (
      arith,
      c.requires,
      c.lengths_at-header.ensures,
      (sizes (form_is c.args.form)).header-least,
      c.put_u32.auto.dst,
    )

pub overflow_sub-header-3 : goal.overflow_sub-header-3
overflow_sub-header-3 c = omega (arith, c.lengths_at-header.ensures, (sizes (form_is c.args.form)).header-least)

pub put_u32-requires-3 : goal.put_u32-requires-3
put_u32-requires-3 c =
    omega (
      arith,
      c.requires,
      c.lengths_at-header.ensures,
      (sizes (form_is c.args.form)).header-least,
      c.put_u32.auto.dst,
      c.put_u32-2.auto.dst,
    )

pub overflow_sub-header-4 : goal.overflow_sub-header-4
overflow_sub-header-4 c = omega (arith, c.lengths_at-header.ensures, (sizes (form_is c.args.form)).header-least)

pub put_u32-requires-4 : goal.put_u32-requires-4
put_u32-requires-4 c =
    omega (
      arith,
      c.requires,
      c.lengths_at-header.ensures,
      (sizes (form_is c.args.form)).header-least,
      c.put_u32.auto.dst,
      c.put_u32-2.auto.dst,
      c.put_u32-3.auto.dst,
    )

pub returns : goal.returns
returns c =
    offsets-put _
    c.args.edges
    c.args.bytes
    c.args.whole
    c.args.out.now
    c.lengths_at-header.ensures
    c.put_u32.ensures
    c.put_u32-2.ensures
    c.put_u32-3.ensures
    c.put_u32-4.ensures
