pub mod WordLoops
pub mod Written
pub mod Listed
