mod Alike
mod Anywhere
pub mod Askable
mod Clapped
mod Commands
mod Fits
mod Rows
mod Said
mod Steps
mod Walks
mod Written
