-- `record::takes_kind` meets its contract.
use Rattle.record.proofs.Tests.{takes-kmer, takes-sequence, takes-both}
use borrow.Author.Rules.{rules}
use Rattle.record.proofs.takes_kind.Goals as goal

pub returns-in-KmerOnly : goal.returns-in-KmerOnly
returns-in-KmerOnly c = takes-kmer _ _ c.in-KmerOnly.is

pub returns-in-SequenceOnly : goal.returns-in-SequenceOnly
returns-in-SequenceOnly c = takes-sequence _ _ c.in-SequenceOnly.is

pub returns-in-BothKinds : goal.returns-in-BothKinds
returns-in-BothKinds c = takes-both _ _ c.in-BothKinds.is
