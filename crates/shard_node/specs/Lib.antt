pub mod Keeping
pub mod Shards
