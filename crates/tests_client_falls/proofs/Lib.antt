pub mod Figures
pub mod Verdicts
pub mod RightLives
pub mod WrongLives
pub mod WrongRecords
pub mod WrongVerdicts
