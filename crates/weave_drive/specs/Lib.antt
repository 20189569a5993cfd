pub mod Driving
pub mod Staying
pub mod LowerLaws
pub mod Progress
pub mod Loops
