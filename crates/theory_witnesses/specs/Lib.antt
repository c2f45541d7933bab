pub mod Needed
pub mod Guarantees
pub mod Moves
pub mod Shares
pub mod Stories
pub mod Settings
pub mod Witnesses
pub mod Vocabulary
