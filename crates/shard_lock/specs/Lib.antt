pub mod Frames
pub mod Notes
pub mod LowerLaws
pub mod Visited
pub mod VisitLaws
