pub mod CallEnds
pub mod Commands
pub mod Explained
