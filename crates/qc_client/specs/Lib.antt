pub mod Client
pub mod Conduct
pub mod Fits
pub mod Inputs
pub mod Vocabulary
