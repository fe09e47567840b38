-- `record::offsets_disagree` meets its contract.
use native.Mathlib.Omega.{arith}
use mathlib.Core.Path.{◌∙◌, ap, sym}
use Rattle.defs.specs.Forms.{form_of}
use Rattle.defs.specs.Record.{vertices_of, edges_of, bytes_at}
use Rattle.form.specs.Coded.{form_is}
use Rattle.form.proofs.FormLaws.{sizes, between}
use Rattle.record.proofs.Fields.{
  header-same,
  header-inside,
  edges-at-read,
  bytes-at-read,
  lengths-offset-read,
  edges-offset-read,
  bytes-offset-read,
}
use Rattle.record.proofs.Tests.{lengths-elsewhere, edges-elsewhere, bytes-elsewhere, offsets-right}
use borrow.Author.Rules.{rules}
use Rattle.record.proofs.offsets_disagree.Goals as goal

pub overflow_sub-header : goal.overflow_sub-header
overflow_sub-header c = omega (arith, c.lengths_at-header.ensures, (sizes (form_is c.args.form)).header-least)

pub u32_at-requires : goal.u32_at-requires
u32_at-requires c =
    omega (
      arith,
      c.lengths_at-header.ensures,
      header-inside c.requires,
      (sizes (form_is c.args.form)).header-least,
    )

pub returns-then-u32_at-header : goal.returns-then-u32_at-header
returns-then-u32_at-header c =
    lengths-elsewhere
    c.args.rec.now
    (c.u32_at.ensures ∙ lengths-offset-read _ _ c.requires.is c.lengths_at-header.ensures)
    (c.lengths_at-header.ensures ∙ header-same _ _ c.requires.is)
    c.if-u32_at-header.true

pub overflow_sub-header-2 : goal.overflow_sub-header-2
overflow_sub-header-2 c = omega (arith, c.lengths_at-header.ensures, (sizes (form_is c.args.form)).header-least)

pub u32_at-requires-2 : goal.u32_at-requires-2
u32_at-requires-2 c =
    omega (
      arith,
      c.lengths_at-header.ensures,
      header-inside c.requires,
      (sizes (form_is c.args.form)).header-least,
    )

pub returns-then-u32_at-edges_at : goal.returns-then-u32_at-edges_at
returns-then-u32_at-edges_at c =
    edges-elsewhere
    c.args.rec.now
    (c.u32_at.ensures ∙ lengths-offset-read _ _ c.requires.is c.lengths_at-header.ensures)
    (c.lengths_at-header.ensures ∙ header-same _ _ c.requires.is)
    c.if-u32_at-header.false
    (c.u32_at-2.ensures ∙ edges-offset-read _ _ c.requires.is c.lengths_at-header.ensures)
    (edges-at-read _ _ c.requires.is c.edges_at.ensures c.vertex_count-vertices.ensures.0)
    c.if-u32_at-edges_at.true

pub overflow_sub-header-3 : goal.overflow_sub-header-3
overflow_sub-header-3 c = omega (arith, c.lengths_at-header.ensures, (sizes (form_is c.args.form)).header-least)

pub u32_at-requires-3 : goal.u32_at-requires-3
u32_at-requires-3 c =
    omega (
      arith,
      c.lengths_at-header.ensures,
      header-inside c.requires,
      (sizes (form_is c.args.form)).header-least,
    )

pub returns-then-u32_at-bytes : goal.returns-then-u32_at-bytes
returns-then-u32_at-bytes c =
    bytes-elsewhere
    c.args.rec.now
    (c.u32_at.ensures ∙ lengths-offset-read _ _ c.requires.is c.lengths_at-header.ensures)
    (c.lengths_at-header.ensures ∙ header-same _ _ c.requires.is)
    c.if-u32_at-header.false
    (c.u32_at-2.ensures ∙ edges-offset-read _ _ c.requires.is c.lengths_at-header.ensures)
    (edges-at-read _ _ c.requires.is c.edges_at.ensures c.vertex_count-vertices.ensures.0)
    c.if-u32_at-edges_at.false
    (c.u32_at-3.ensures ∙ bytes-offset-read _ _ c.requires.is c.lengths_at-header.ensures)
    (bytes-at-read _ _ c.requires.is c.bytes_at-bytes.ensures c.vertex_count-vertices.ensures.0
    c.edge_count.ensures.0)
    c.if-u32_at-bytes.true

pub returns : goal.returns
returns c =
    offsets-right
    c.args.rec.now
    (c.u32_at.ensures ∙ lengths-offset-read _ _ c.requires.is c.lengths_at-header.ensures)
    (c.lengths_at-header.ensures ∙ header-same _ _ c.requires.is)
    c.if-u32_at-header.false
    (c.u32_at-2.ensures ∙ edges-offset-read _ _ c.requires.is c.lengths_at-header.ensures)
    (edges-at-read _ _ c.requires.is c.edges_at.ensures c.vertex_count-vertices.ensures.0)
    c.if-u32_at-edges_at.false
    (c.u32_at-3.ensures ∙ bytes-offset-read _ _ c.requires.is c.lengths_at-header.ensures)
    (bytes-at-read _ _ c.requires.is c.bytes_at-bytes.ensures c.vertex_count-vertices.ensures.0
    c.edge_count.ensures.0)
    c.if-u32_at-bytes.false
    c.byte_count.ensures.0
