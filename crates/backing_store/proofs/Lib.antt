pub mod Afters
pub mod Committing
pub mod Firsts
pub mod Judging
pub mod Members
pub mod Replay
pub mod Rule
pub mod Tables
