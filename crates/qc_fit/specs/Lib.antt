pub mod Numbers
pub mod Fits
pub mod Parts
pub mod Said
pub mod Cases
pub mod Vocabulary
