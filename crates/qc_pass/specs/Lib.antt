pub mod Views
pub mod Seats
pub mod Rule
pub mod Tokens
pub mod Made
pub mod Vocabulary
