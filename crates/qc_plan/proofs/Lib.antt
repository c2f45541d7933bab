pub mod Faultless
pub mod Heaviness
pub mod Least
pub mod Meet
pub mod RoundsMet
pub mod Rounds
pub mod Sums
