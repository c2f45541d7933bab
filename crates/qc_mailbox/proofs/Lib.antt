pub mod Shown
pub mod Counting
pub mod Sent
pub mod Shipping
pub mod Taking
pub mod Keeping
pub mod Acting
pub mod Seeing
pub mod Controlling
pub mod FallTrays
pub mod Picking
pub mod AmongSteps
pub mod Among
pub mod Bounds
pub mod Apart
pub mod Ranking
mod Emptied
mod Downs
mod Standing
mod Inputs
mod LinedSteps
mod Lined
mod Falling
mod FallRuns
pub mod OwnMessages
pub mod Owned
pub mod FallMail
pub mod FallLaws
pub mod Each
pub mod Room
pub mod Passing
pub mod Changed
pub mod Requested
