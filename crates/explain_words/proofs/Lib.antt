pub mod JudgeLaws
pub mod Numbered
