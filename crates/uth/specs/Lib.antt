pub mod Blocks
pub mod Judge
pub mod Layout
pub mod Steps
pub mod Tiles
pub mod Value
