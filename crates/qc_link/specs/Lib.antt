pub mod Cuts
pub mod Fate
pub mod Limits
pub mod Places
pub mod Vocabulary
