-- Laws of the sets: those that the types' own impls cite, and those that callers need. A reader of contracts may skip this file.
pub mod Ranges
pub mod Sets
pub mod WordSets
pub mod Steps
pub mod Gathered
pub mod Laid
pub mod Stored
pub mod Iterated
