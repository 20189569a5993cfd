pub mod KeepWords
pub mod KeptReports
pub mod Keepable
pub mod KeepEnds
pub mod Unanswered
pub mod Prepared
