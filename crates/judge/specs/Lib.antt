pub mod Table
pub mod Step
pub mod Stretch
pub mod Profile
pub mod Turning
pub mod Extent
pub mod Run
pub mod Pending
