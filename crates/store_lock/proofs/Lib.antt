pub mod Keeping
pub mod Begun
pub mod Verdicts
pub mod Committing
