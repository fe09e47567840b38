-- `overlap::edge_overlaps` meets its contract.
use Rattle.overlap.proofs.OverlapLaws.{kmer-in-record, overlaps-is}
use Rattle.record.proofs.Sequences.{formed-edge}
use native.Mathlib.Omega.{arith}
use Rattle.overlap.proofs.edge_overlaps.Goals as goal

pub edge_from_at-from-requires : goal.edge_from_at-from-requires
edge_from_at-from-requires c = formed-edge c.requires.0.formed c.requires.1.0 c.args.i c.requires.1.1.1

pub edge_to_at-to-requires : goal.edge_to_at-to-requires
edge_to_at-to-requires c = formed-edge c.requires.0.formed c.requires.1.0 c.args.i c.requires.1.1.1

pub overflow_mul-size : goal.overflow_mul-size
overflow_mul-size c = omega (arith, kmer-in-record c.requires.0 (c.requires.0.formed.good c.args.i c.requires.1.1.1).from c.value-size.ensures c.requires.1.1.0 c.edge_from_at-from.ensures)

pub overflow_add-at : goal.overflow_add-at
overflow_add-at c = omega (arith, kmer-in-record c.requires.0 (c.requires.0.formed.good c.args.i c.requires.1.1.1).from c.value-size.ensures c.requires.1.1.0 c.edge_from_at-from.ensures)

pub overflow_add-at-2 : goal.overflow_add-at-2
overflow_add-at-2 c = omega (arith, kmer-in-record c.requires.0 (c.requires.0.formed.good c.args.i c.requires.1.1.1).from c.value-size.ensures c.requires.1.1.0 c.edge_from_at-from.ensures)

pub overflow_mul-size-2 : goal.overflow_mul-size-2
overflow_mul-size-2 c = omega (arith, kmer-in-record c.requires.0 (c.requires.0.formed.good c.args.i c.requires.1.1.1).to c.value-size.ensures c.requires.1.1.0 c.edge_to_at-to.ensures)

pub overflow_add-at-3 : goal.overflow_add-at-3
overflow_add-at-3 c = omega (arith, kmer-in-record c.requires.0 (c.requires.0.formed.good c.args.i c.requires.1.1.1).to c.value-size.ensures c.requires.1.1.0 c.edge_to_at-to.ensures)

pub same_part-requires : goal.same_part-requires
same_part-requires c = (
  omega (arith, kmer-in-record c.requires.0 (c.requires.0.formed.good c.args.i c.requires.1.1.1).from c.value-size.ensures c.requires.1.1.0 c.edge_from_at-from.ensures),
  omega (arith, kmer-in-record c.requires.0 (c.requires.0.formed.good c.args.i c.requires.1.1.1).to c.value-size.ensures c.requires.1.1.0 c.edge_to_at-to.ensures),
)

pub returns : goal.returns
returns c =
    overlaps-is c.requires.0 c.args.i c.requires.1.1.1 c.value-size.ensures
    c.edge_from_at-from.ensures c.edge_to_at-to.ensures c.requires.1.1.0 c.same_part.ensures
