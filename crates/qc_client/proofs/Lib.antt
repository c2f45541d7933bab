pub mod HeardCases
mod FrontSends
mod Fronts
mod Names
mod Outcomes
