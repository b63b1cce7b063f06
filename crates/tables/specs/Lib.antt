pub mod Table
pub mod Lawful
