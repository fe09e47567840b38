-- Which kinds a call takes: the code's enum as the definitions' one.
-- Assumes nothing.
use Rattle.defs.specs.Refusals as refusals
use Rattle.record.specs.declared.Takes.{Takes}
use Rattle.record.specs.declared.Takes.TheVariants.{KmerOnly, SequenceOnly, BothKinds}

unfoldable pub takes_of : Takes → refusals.Takes
takes_of KmerOnly = refusals.kmer_only
takes_of SequenceOnly = refusals.sequence_only
takes_of BothKinds = refusals.both_kinds
