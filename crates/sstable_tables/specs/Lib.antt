pub mod Making
pub mod Laws
pub mod Reading
pub mod Made
