pub mod Log
pub mod Ends
