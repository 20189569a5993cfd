pub mod Chains
pub mod Collection
pub mod Keeping
pub mod Looks
pub mod Updates
pub mod Views
