pub mod Accept
