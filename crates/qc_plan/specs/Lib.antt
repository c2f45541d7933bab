pub mod Admitted
pub mod Close
pub mod Faults
pub mod Limits
pub mod Need
pub mod Round
pub mod Weights
pub mod Vocabulary
