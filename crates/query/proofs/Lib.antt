pub mod QueryLaws
pub mod QueryDetermined
pub mod QuerySays
pub mod FieldRefusals
pub mod LineAnswers
