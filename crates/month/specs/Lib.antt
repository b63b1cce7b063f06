pub mod Report
pub mod Counting
