-- `from_kmers::convert` meets its contract.
use Rattle.from_kmers.proofs.ConversionLaws.{countable, over, done}
use Rattle.from_kmers.proofs.convert.Goals as goal

pub sequence_bytes-requires : goal.sequence_bytes-requires
sequence_bytes-requires c =
    countable c.requires c.additional_sequences.ensures c.additional_sequences.auto.vs

pub returns-then-most_bytes-sequence_bytes : goal.returns-then-most_bytes-sequence_bytes
returns-then-most_bytes-sequence_bytes c =
    over
    c.requires
    c.additional_sequences.ensures
    c.edges_sorted.ensures
    c.sequence_bytes.ensures
    c.most_bytes.ensures
    c.if-most_bytes-sequence_bytes.true

pub returns : goal.returns
returns c =
    done
    c.requires
    c.additional_sequences.ensures
    c.edges_sorted.ensures
    c.sequence_bytes.ensures
    c.most_bytes.ensures
    c.if-most_bytes-sequence_bytes.false
    c.additional_sequences.auto.vs
    c.edges_sorted.auto.out
