pub mod Sales
pub mod Balances
pub mod Reading
pub mod History
pub mod OneCard
pub mod Helpers
pub mod Figures
