pub mod Clean
pub mod FirstLine
pub mod Joined
pub mod Numerals
pub mod FirstPiece
