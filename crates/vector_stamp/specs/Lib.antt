pub mod Order
pub mod Clocks
pub mod Coherence
pub mod Precedence
pub mod Settling
pub mod Seeing
pub mod ClockLaws
