pub mod Logs
pub mod Last
pub mod Promised
pub mod Asked
pub mod Lives
pub mod SiteLaws
pub mod ClientLaws
pub mod SortedRecords
