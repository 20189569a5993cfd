pub mod Runs
pub mod LowerLaws
