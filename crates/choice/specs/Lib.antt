pub mod Choice
pub mod Chosen
pub mod Helpers
