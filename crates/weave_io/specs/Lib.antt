pub mod Counts
pub mod Memory
pub mod Stall
pub mod Told
