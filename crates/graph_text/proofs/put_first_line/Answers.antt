-- `graph_text::put_first_line` meets its contract.
use native.Mathlib.Omega.{arith}
use mathlib.Core.Path.{ap, ◌∙◌}
use Rattle.defs.specs.Lists.{tab_from}
use Rattle.text.specs.Printed.{ascii, field}
use Rattle.text.proofs.TextLaws.{put_as}
use Rattle.text.proofs.SignLaws.{word_of}
use Rattle.graph_text.proofs.GraphLaws.{first-line}
use Rattle.graph_text.proofs.put_first_line.Goals as goal

pub surplus-requires : goal.surplus-requires
surplus-requires c = omega (arith, c.requires)

pub put_signed-to-requires : goal.put_signed-to-requires
put_signed-to-requires c = (
  omega (
    arith,
    c.requires.0,
    c.put_field-to.ensures.size,
    c.put_field-to.ensures.end,
    c.put_field-to-2.ensures.size,
    c.put_field-to-2.ensures.end,
    c.put_field-to-3.ensures.size,
    c.put_field-to-3.ensures.end,
    c.put_field-to-4.ensures.size,
    c.put_field-to-4.ensures.end,
    c.put_bytes-to.ensures.size,
    c.put_bytes-to.ensures.end,
    c.put_field-to.auto.text,
    c.put_field-to-2.auto.text,
    c.put_field-to-3.auto.text,
    c.put_field-to-4.auto.text,
    c.put_bytes-to.auto.text,
  ),
  rw (word_of c.surplus.ensures.1) c.surplus.ensures.1,
)

pub put_bytes-requires : goal.put_bytes-requires
put_bytes-requires c =
    omega (
      arith,
      c.requires.0,
      c.put_field-to.ensures.size,
      c.put_field-to.ensures.end,
      c.put_field-to-2.ensures.size,
      c.put_field-to-2.ensures.end,
      c.put_field-to-3.ensures.size,
      c.put_field-to-3.ensures.end,
      c.put_field-to-4.ensures.size,
      c.put_field-to-4.ensures.end,
      c.put_bytes-to.ensures.size,
      c.put_bytes-to.ensures.end,
      c.put_signed-to.ensures.size,
      c.put_signed-to.ensures.end,
      c.put_field-to.auto.text,
      c.put_field-to-2.auto.text,
      c.put_field-to-3.auto.text,
      c.put_field-to-4.auto.text,
      c.put_bytes-to.auto.text,
      c.put_signed-to.auto.text,
    )

pub shape_of-text : goal.shape_of-text
shape_of-text c =
    c.put_bytes.auto.text
    ∙ c.put_signed-to.auto.text
    ∙ c.put_bytes-to.auto.text
    ∙ c.put_field-to-4.auto.text
    ∙ c.put_field-to-3.auto.text
    ∙ c.put_field-to-2.auto.text
    ∙ c.put_field-to.auto.text

pub returns : goal.returns
unfolding ascii tab_from field
returns c =
    first-line
    c.args.k.0
    c.args.n
    c.args.m
    c.args.b
    (put_as (ap (field "k ") c.value.ensures) c.put_field-to.ensures)
    c.put_field-to-2.ensures
    c.put_field-to-3.ensures
    c.put_field-to-4.ensures
    c.put_bytes-to.ensures
    (word_of c.surplus.ensures.1 ∙ c.surplus.ensures.0)
    c.put_signed-to.ensures
    c.put_bytes.ensures
