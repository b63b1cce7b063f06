pub mod ByLaws
pub mod Meaning
