pub mod Rows
pub mod Ahead
pub mod Profile
pub mod Finish
pub mod Slots
pub mod Fill
pub mod Ordinals
