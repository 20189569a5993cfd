pub mod Leading
pub mod Updates
pub mod Collecting
pub mod LowMarks
pub mod Keeping
pub mod Ready
pub mod Splitting
pub mod Views
