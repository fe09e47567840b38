pub mod Concat
pub mod Encoded
pub mod Decoded
pub mod RoundTrip
