pub mod Accounts
mod Calls
mod Contents
mod Counts
