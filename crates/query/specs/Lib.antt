pub mod Found
pub mod Query
