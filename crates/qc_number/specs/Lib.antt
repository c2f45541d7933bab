pub mod Numbers
pub mod Vocabulary
