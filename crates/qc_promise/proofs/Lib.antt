pub mod Lifetimes
pub mod Posts
pub mod Promises
