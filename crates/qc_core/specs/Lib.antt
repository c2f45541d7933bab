pub mod Conduct
pub mod Sites
pub mod Acts
pub mod Actors
pub mod Lives
pub mod Journals
pub mod GivenBack
pub mod Vocabulary
