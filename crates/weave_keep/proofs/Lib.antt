pub mod Journals
pub mod Requests
pub mod Prepared
pub mod Ends
pub mod Words
pub mod Versions
pub mod Working
