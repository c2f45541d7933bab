pub mod Desk
pub mod Votes
pub mod Conduct
pub mod Learning
pub mod Fits
pub mod Course
pub mod Calls
pub mod Vocabulary
