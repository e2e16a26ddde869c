pub mod Numbers
pub mod Words
pub mod Laws
pub mod Subset
pub mod Counts
pub mod Laid
pub mod Iterated
pub mod Shown
