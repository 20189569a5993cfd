pub mod Faults
pub mod Leaving
pub mod Transactions
pub mod Telling
pub mod Messages
pub mod Programs
pub mod ArrivalLaws
