pub mod JudgeCalls
pub mod Commits
pub mod Keeping
pub mod Trying
