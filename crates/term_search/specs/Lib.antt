pub mod Search
pub mod Leaves
pub mod Members
pub mod Searching
