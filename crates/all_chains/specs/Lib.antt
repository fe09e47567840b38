pub mod AllChains
