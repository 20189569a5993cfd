pub mod Rows
pub mod Reservations
pub mod Openings
pub mod Hands
pub mod Notings
pub mod Meetings
