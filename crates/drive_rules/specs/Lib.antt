pub mod Heads
pub mod Readiness
pub mod Links
pub mod LowerLaws
