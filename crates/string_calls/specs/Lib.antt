pub mod TellsBytes
