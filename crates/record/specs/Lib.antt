pub mod Header
pub mod Pointer
pub mod Follow
pub mod Times
