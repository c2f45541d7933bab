pub mod Between
pub mod AcceptedNames
pub mod BuiltInRules
pub mod Clients
pub mod Places
