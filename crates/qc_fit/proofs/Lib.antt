pub mod Tests
pub mod Words
