pub use Rattle.weave_data.specs.Facts
pub mod Lookups
pub mod Replay
pub mod RightReport
pub mod PrintedOrder
pub mod Meetings
pub mod ReportOf
