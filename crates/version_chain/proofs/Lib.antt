pub mod LookBack
pub mod Collecting
pub mod Histories
pub mod Changed
