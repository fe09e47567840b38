-- `write_record::put_counts` meets its contract.
use native.Mathlib.Omega.{arith}
use mathlib.Core.Path.{ap, ◌∙◌}
use Prim.Native.Nat.{ℕ}
use lib.Seq.{sets}
use Rattle.defs.specs.Record.{le16}
use Rattle.form.specs.Coded.{form_is}
use Rattle.form.proofs.FormLaws.{sizes, between}
use Rattle.write_record.proofs.WriteLaws.{counts-put}
use borrow.Author.Rules.{rules}
use Rattle.write_record.proofs.put_counts.Goals as goal

pub put_u16-requires : goal.put_u16-requires
put_u16-requires c = omega (arith, c.requires.0, (sizes (form_is c.args.form)).header-least)

pub overflow_cast-n : goal.overflow_cast-n
overflow_cast-n c = omega (arith, c.requires.1.n-fits, (sizes (form_is c.args.form)).limit-most)

pub put_word-requires : goal.put_word-requires
put_word-requires c = (
  omega (arith, c.requires.0, (sizes (form_is c.args.form)).header-holds, c.put_u16.auto.dst),
  c.requires.1.n-fits,
)

pub overflow_add-word : goal.overflow_add-word
overflow_add-word c = omega (arith, c.word_size-word.ensures, (sizes (form_is c.args.form)).word-most)

pub overflow_cast-m : goal.overflow_cast-m
overflow_cast-m c = omega (arith, c.requires.1.m-fits, (sizes (form_is c.args.form)).limit-most)

pub put_word-requires-2 : goal.put_word-requires-2
put_word-requires-2 c = (
  omega (
    arith,
    c.requires.0,
    c.word_size-word.ensures,
    (sizes (form_is c.args.form)).header-holds,
    c.put_u16.auto.dst,
    c.put_word.auto.dst,
  ),
  c.requires.1.m-fits,
)

pub overflow_mul-word : goal.overflow_mul-word
overflow_mul-word c = omega (arith, c.word_size-word.ensures, (sizes (form_is c.args.form)).word-most)

pub overflow_add-word-2 : goal.overflow_add-word-2
overflow_add-word-2 c = omega (arith, c.word_size-word.ensures, (sizes (form_is c.args.form)).word-most)

pub overflow_cast-b : goal.overflow_cast-b
overflow_cast-b c =
    omega (
      arith,
      c.requires.1.whole-fits,
      (between (form_is c.args.form) c.args.n c.args.m c.args.b).whole_is,
    )

pub put_u32-requires : goal.put_u32-requires
put_u32-requires c =
    omega (
      arith,
      c.requires.0,
      c.word_size-word.ensures,
      (sizes (form_is c.args.form)).header-holds,
      c.put_u16.auto.dst,
      c.put_word.auto.dst,
      c.put_word-2.auto.dst,
    )

pub returns : goal.returns
returns c =
    counts-put _
    c.args.k.0
    c.args.n
    c.args.m
    c.args.b
    c.args.out.now
    c.word_size-word.ensures
    (c.put_u16.ensures ∙ ap (λ (x : ℕ). sets c.args.out.now 6 (le16 x)) c.value.ensures)
    c.put_word.ensures
    c.put_word-2.ensures
    c.put_u32.ensures
