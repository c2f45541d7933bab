pub mod Words
pub mod RightLives
pub mod WrongLives
pub mod WrongRecords
pub mod WrongVerdicts
