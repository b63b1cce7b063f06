pub mod Said
pub mod Calendar
pub mod Closed
