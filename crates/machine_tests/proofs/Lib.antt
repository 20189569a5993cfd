pub mod ShardStamps
pub mod ThreeParts
pub mod Covered
pub mod LogSteps
pub mod RowStamps
pub mod LeftOpen
