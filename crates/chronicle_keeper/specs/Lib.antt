pub mod Totals
pub mod Additions
