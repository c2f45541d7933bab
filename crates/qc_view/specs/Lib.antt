pub mod View
pub mod Vocabulary
