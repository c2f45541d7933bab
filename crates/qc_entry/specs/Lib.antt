pub mod Line
pub mod Log
pub mod Marks
pub mod Places
pub mod Orders
pub mod Vocabulary
