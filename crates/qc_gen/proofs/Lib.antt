mod Texts
mod Writable
mod Reading
mod Phases
mod Lengths
pub mod Loads
