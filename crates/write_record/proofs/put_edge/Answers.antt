-- `write_record::put_edge` meets its contract.
use native.Mathlib.Omega.{arith}
use mathlib.Core.Path.{◌∙◌}
use Prim.Native.Nat.{◌+◌, ◌*◌}
use lib.ListN.{length-set}
use Rattle.defs.specs.Lists.{bit}
use Rattle.defs.specs.Record.{flag_of}
use Rattle.laws.proofs.ListLaws.{bit-small}
use Rattle.form.specs.Coded.{form_is}
use Rattle.form.proofs.FormLaws.{sizes}
use Rattle.store.specs.Store.{edge_in}
use Rattle.write_record.proofs.WriteLaws.{edge-put}
use borrow.Author.Rules.{rules}
use Rattle.write_record.proofs.put_edge.Goals as goal

pub put_word-requires : goal.put_word-requires
put_word-requires c = (
  omega (arith, c.requires.room, (sizes (form_is c.args.form)).edge-holds),
  omega (arith, c.requires.from, c.edge_from.ensures),
)

pub overflow_add-at : goal.overflow_add-at
overflow_add-at c =
    omega (arith, c.requires.room, c.word_size-word.ensures, (sizes (form_is c.args.form)).edge-holds)

pub put_word-requires-2 : goal.put_word-requires-2
put_word-requires-2 c = (
  omega (
    arith,
    c.requires.room,
    c.word_size-word.ensures,
    (sizes (form_is c.args.form)).edge-holds,
    c.put_word.auto.dst,
  ),
  omega (arith, c.requires.to, c.edge_to.ensures),
)

pub overflow_mul-word : goal.overflow_mul-word
overflow_mul-word c = omega (arith, c.word_size-word.ensures, (sizes (form_is c.args.form)).word-most)

pub overflow_add-at-2 : goal.overflow_add-at-2
overflow_add-at-2 c =
    omega (arith, c.requires.room, c.word_size-word.ensures, (sizes (form_is c.args.form)).edge-holds)

pub put_u32-requires : goal.put_u32-requires
put_u32-requires c =
    omega (
      arith,
      c.requires.room,
      c.word_size-word.ensures,
      (sizes (form_is c.args.form)).edge-holds,
      c.put_word.auto.dst,
      c.put_word-2.auto.dst,
    )

pub overflow_cast-out : goal.overflow_cast-out
overflow_cast-out c =
    omega (
      arith,
      c.flag_of-flag.ensures,
      bit-small c.edge_is_ref.result,
      bit-small c.edge_is_capped.result,
    )

pub overflow_mul-out : goal.overflow_mul-out
overflow_mul-out c = omega (arith, c.word_size-word.ensures, (sizes (form_is c.args.form)).word-most)

pub overflow_add-out : goal.overflow_add-out
overflow_add-out c =
    omega (arith, c.requires.room, c.word_size-word.ensures, (sizes (form_is c.args.form)).edge-holds)

pub overflow_add-out-2 : goal.overflow_add-out-2
overflow_add-out-2 c =
    omega (arith, c.requires.room, c.word_size-word.ensures, (sizes (form_is c.args.form)).edge-holds)

pub bounds-out-at : goal.bounds-out-at
bounds-out-at c =
    omega (
      arith,
      c.requires.room,
      c.word_size-word.ensures,
      (sizes (form_is c.args.form)).edge-holds,
      c.put_word.auto.dst,
      c.put_word-2.auto.dst,
      c.put_u32.auto.dst,
    )

pub returns : goal.returns
unfolding flag_of
returns c =
    edge-put _
    c.args.at
    c.args.out.now
    c.word_size-word.ensures
    (edge_in c.args.es.now c.args.i)
    c.edge_from.ensures
    c.edge_to.ensures
    c.edge_support.ensures
    (c.flag_of-flag.ensures ∙
    (λ i. bit (c.edge_is_ref.ensures i) + 2 * bit (c.edge_is_capped.ensures i)))
    c.put_word.ensures
    c.put_word-2.ensures
    c.put_u32.ensures
