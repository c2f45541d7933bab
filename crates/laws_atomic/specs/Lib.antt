pub mod Reached
pub mod Wrong
pub mod Vocabulary
