pub mod Documents
pub mod Postings
