pub mod Causes
pub mod Declarations
pub mod Scripts
pub mod Vocabulary
