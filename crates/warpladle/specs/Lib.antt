pub mod Values
pub mod Judging
pub mod Fields
pub mod Lines
