pub mod Counted
pub mod Fuses
pub mod Images
pub mod Kept
pub mod Memory
pub mod Racks
