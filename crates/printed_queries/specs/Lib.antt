pub mod Satisfies
pub mod Lookups
pub mod Meaning
pub mod Expressions
pub mod Escapes
pub mod Law
pub mod Rows
