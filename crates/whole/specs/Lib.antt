pub mod Values
pub mod Spelled
pub mod Parse
pub mod Inverse
pub mod Answers
pub mod Alike
pub mod Assembled
