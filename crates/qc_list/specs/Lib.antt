pub mod Members
pub mod Order
pub mod Pages
pub mod Results
pub mod Search
pub mod Vocabulary
