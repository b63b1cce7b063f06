pub mod Field
pub mod Grammar
pub mod Writing
