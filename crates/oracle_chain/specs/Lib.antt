pub mod Replay
pub mod Chain
pub mod Calls
pub mod IsReplicaChain
pub mod Judging
pub mod Held
pub mod Joining
