pub mod Places
pub mod Owns
pub mod PassSteps
pub mod Keeps
pub mod Making
pub mod RuleLaws
pub mod WrongStates
