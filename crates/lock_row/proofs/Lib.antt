pub mod Lists
pub mod Meetings
pub mod Hands
pub mod Notings
pub mod Openings
