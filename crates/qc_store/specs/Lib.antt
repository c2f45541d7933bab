pub mod Calls
pub mod Accounts
pub mod Contents
pub mod Vocabulary
