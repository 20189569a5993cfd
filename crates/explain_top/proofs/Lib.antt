pub mod CallEnds
pub mod Delivered
pub mod Streams
pub mod Taken
pub mod TooLong
