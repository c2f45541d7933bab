pub mod Discipline
pub mod Belongs
pub mod EpochLaws
pub mod Bases
pub mod Short
pub mod Witnesses
pub mod Wrong
pub mod Vocabulary
