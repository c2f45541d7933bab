pub mod Clash
pub mod Conflict
pub mod Held
pub mod TransactionMap
pub mod HolderSets
pub mod Sound
pub mod Vocabulary
