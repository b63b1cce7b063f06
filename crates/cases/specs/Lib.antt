pub mod Agree
pub mod Answers
pub mod Case
