mod Own
pub mod Plain
mod Told
pub mod Going
mod Appending
mod Openings
mod Crashes
mod Beginnings
mod Reopened
mod Fit
mod Restarts
pub mod GivenUp
mod Ups
pub mod Seen
pub mod Processes
