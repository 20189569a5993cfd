pub mod Kept
pub mod Building
pub mod Frontiers
pub mod Chains
