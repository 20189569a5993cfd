pub mod Histories
pub mod SessionsLaws
