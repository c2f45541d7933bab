pub mod Answered
pub mod Handed
pub mod Outside
pub mod Reads
