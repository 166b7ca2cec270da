pub mod OneAnswer
pub mod ZeroNumber
pub mod Computed
