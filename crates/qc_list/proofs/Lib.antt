pub mod Booleans
pub mod Members
pub mod Numbers
pub mod Options
pub mod Order
pub mod Places
pub mod Search
