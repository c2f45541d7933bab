pub mod GrownMail
pub mod DeedsGrow
pub mod Growth
