pub mod Moment
pub mod Pairing
