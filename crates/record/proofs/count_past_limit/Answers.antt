-- `record::count_past_limit` meets its contract.
use native.Mathlib.Omega.{arith}
use mathlib.Core.Path.{◌∙◌, ap, sym}
use lib.Dec.{ltb}
use Rattle.defs.specs.Forms.{limits}
use Rattle.record.proofs.Fields.{header-long}
use Rattle.record.proofs.Tests.{vertices-past, edges-past, bytes_past, kmers-within}
use borrow.Author.Rules.{rules}
use Rattle.record.proofs.count_past_limit.Goals as goal

pub returns-then-most_vertices-vertex_count : goal.returns-then-most_vertices-vertex_count
returns-then-most_vertices-vertex_count c =
    vertices-past
    c.args.rec.now
    (omega (
      arith,
      c.most_vertices.ensures,
      c.vertex_count.ensures.0,
      ap (λ f. (limits f).vertices) c.requires.is,
      c.if-most_vertices-vertex_count.true,
    ))

pub returns-then-most_edges-edge_count : goal.returns-then-most_edges-edge_count
returns-then-most_edges-edge_count c =
    edges-past
    c.args.rec.now
    (omega (
      arith,
      c.most_vertices.ensures,
      c.vertex_count.ensures.0,
      ap (λ f. (limits f).vertices) c.requires.is,
      c.if-most_vertices-vertex_count.false,
    ))
    (omega (
      arith,
      c.most_edges.ensures,
      c.edge_count.ensures.0,
      ap (λ f. (limits f).edges) c.requires.is,
      c.if-most_edges-edge_count.true,
    ))

pub bounds-rec-4 : goal.bounds-rec-4
bounds-rec-4 c = omega (arith, header-long c.requires)

pub returns-then-rec-eq1 : goal.returns-then-rec-eq1
returns-then-rec-eq1 c =
    (λ j. ltb ((c.most_bytes.ensures ∙ ap (λ f. (limits f).bytes) c.requires.is) j)
    (c.byte_count.ensures.0 j)) ∙ bytes_past c.args.rec.now
    (omega (
      arith,
      c.most_vertices.ensures,
      c.vertex_count.ensures.0,
      ap (λ f. (limits f).vertices) c.requires.is,
      c.if-most_vertices-vertex_count.false,
    ))
    (omega (
      arith,
      c.most_edges.ensures,
      c.edge_count.ensures.0,
      ap (λ f. (limits f).edges) c.requires.is,
      c.if-most_edges-edge_count.false,
    )) c.if-rec-eq1.true

pub returns : goal.returns
returns c =
    kmers-within
    c.args.rec.now
    (omega (
      arith,
      c.most_vertices.ensures,
      c.vertex_count.ensures.0,
      ap (λ f. (limits f).vertices) c.requires.is,
      c.if-most_vertices-vertex_count.false,
    ))
    (omega (
      arith,
      c.most_edges.ensures,
      c.edge_count.ensures.0,
      ap (λ f. (limits f).edges) c.requires.is,
      c.if-most_edges-edge_count.false,
    ))
    c.if-rec-eq1.false
