pub mod Orders
pub mod Reasons
pub mod OneAnswer
pub mod Promises
pub mod Reading
