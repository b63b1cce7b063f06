pub mod Comparing
pub mod Walking
pub mod Check
