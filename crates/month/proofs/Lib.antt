pub mod PlusLaws
pub mod CountLaws
pub mod JoinLaws
pub mod ReportLaws
pub mod ListLaws
