pub mod Apart
pub mod Reads
