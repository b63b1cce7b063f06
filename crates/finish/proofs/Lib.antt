pub mod SlotLaws
pub mod AheadLaws
pub mod ProfileLaws
pub mod Filling
pub mod Places
pub mod Starts
pub mod Ordinals
pub mod InTurn
