pub mod Lists
pub mod OneCopy
pub mod Executed
pub mod Views
pub mod Committed
pub mod Logged
pub mod Replay
pub mod Vocabulary
