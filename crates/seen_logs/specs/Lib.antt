pub mod Entries
pub mod References
pub mod Seen
pub mod Closed
pub mod FollowsScript
pub mod LowerLaws
