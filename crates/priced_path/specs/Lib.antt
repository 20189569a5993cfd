pub mod Searches
pub mod Tables
pub mod Kept
pub mod Price
