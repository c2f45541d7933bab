pub mod Floors
pub mod Form
pub mod Records
pub mod Legal
pub mod Answers
pub mod Spellings
pub mod Vocabulary
