pub mod Product
pub mod Words
pub mod Demands
pub mod Marked
