pub mod Unique
pub mod Chosen
pub mod WalkLaws
