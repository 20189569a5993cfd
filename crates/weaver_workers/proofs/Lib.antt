pub mod Rows
pub mod Landed
mod Refusals
mod Carried
pub mod Called
pub mod There
pub mod OnlyCarried
mod Transacted
mod Kept
mod Going
mod Below
mod BusyTurns
pub mod ReadOn
mod Answered
mod Nudged
mod Deeds
mod Programs
mod StillKept
