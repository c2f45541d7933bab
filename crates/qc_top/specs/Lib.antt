pub mod Words
pub mod Answers
pub mod Work
pub mod Racks
pub mod Source
pub mod Top
pub mod Vocabulary
