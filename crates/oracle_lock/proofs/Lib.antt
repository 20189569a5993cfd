pub mod Notes
pub mod Settling
pub mod CallEntries
pub mod Judging
