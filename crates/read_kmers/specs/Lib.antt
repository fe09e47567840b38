pub mod Kmers
