pub mod Layout
pub mod Replay
pub mod Record
pub mod Steps
