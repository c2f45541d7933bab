pub mod Accepted
pub mod Actors
pub mod Limits
pub mod Lookup
pub mod Named
pub mod Names
pub mod One
pub mod Vocabulary
