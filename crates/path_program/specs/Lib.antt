pub mod Path
pub mod AnyPrograms
