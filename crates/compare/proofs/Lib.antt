pub mod PlaceLaws
pub mod StepLaws
pub mod CutOfLaws
pub mod CheckLaws
