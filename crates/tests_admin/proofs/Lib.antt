pub mod Promises
pub mod Taking
