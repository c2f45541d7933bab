mod Once
pub mod Learned
mod Asking
mod Counting
pub mod Going
mod Ends
pub mod Moves
pub mod Records
pub mod Rising
pub mod Names
pub mod Aside
pub mod Numbering
