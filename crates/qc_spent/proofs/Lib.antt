mod Ends
mod Sums
mod OwnArms
mod ActingArms
mod Agreement
pub mod Whole
mod OwnRecords
pub mod Stores
mod FittingRecords
