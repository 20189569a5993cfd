pub mod Added
pub mod Returned
