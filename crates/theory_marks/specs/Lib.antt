pub mod Marks
pub mod Exchange
pub mod Acts
pub mod Laws
pub mod Wrong
pub mod Witnesses
