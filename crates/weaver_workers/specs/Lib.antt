pub mod Phases
pub mod Carrying
pub mod Keeping
pub mod ClientWork
pub mod Turning
pub mod KeepLaws
pub mod Workers
