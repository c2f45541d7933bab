pub mod Young
pub mod ClientJournals
pub mod Records
