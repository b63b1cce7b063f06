pub mod Lists
pub mod Walks
pub mod Rows
pub mod Records
pub mod Right
pub mod Quick
pub mod Vectors
