pub mod Dropping
pub mod Going
pub mod UnusedHands
pub mod OwnRequests
pub mod ReadyWorkers
pub mod Turns
pub mod Workers
