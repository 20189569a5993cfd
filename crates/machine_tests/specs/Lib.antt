pub mod PairEnds
pub mod Covers
pub mod ArrivedStamps
pub mod LogReading
pub mod OpenLog
