mod Behind
pub mod Orders
pub mod Every
pub mod Union
pub mod Without
pub mod Members
pub mod Walks
mod OneObject
pub mod Logs
mod Placed
