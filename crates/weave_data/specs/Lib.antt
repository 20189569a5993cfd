pub mod Limits
pub mod Facts
pub mod Steps
pub mod Changes
pub mod Names
pub mod Pairs
pub mod Places
