pub mod Range
pub mod Dates
pub mod Closed
pub mod Determined
pub mod FiveDates
