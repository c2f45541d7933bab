pub mod Young
pub mod YoungClocks
pub mod ClientJournals
pub mod Records
