pub mod SumLaws
pub mod FitLaws
pub mod RunLaws
pub mod PutLaws
pub mod WriteLaws
pub mod ReplayLaws
pub mod Example
