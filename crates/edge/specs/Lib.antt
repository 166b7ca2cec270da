pub mod Replies
pub mod ZeroNumber
pub mod Figures
