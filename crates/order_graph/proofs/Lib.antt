pub mod Building
pub mod Stamps
pub mod Orders
pub mod Chains
pub mod Joining
pub mod Frontiers
pub mod Raising
pub mod Adding
