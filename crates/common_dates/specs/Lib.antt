pub mod Dates
pub mod DateLaws
