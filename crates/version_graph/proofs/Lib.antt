pub mod Chains
pub mod Collecting
