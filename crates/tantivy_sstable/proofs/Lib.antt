pub mod Opens
pub mod FileLaws
pub mod Finding
pub mod Standing
pub mod Fetching
pub mod Searched
pub mod KeyBlocks
pub mod Getting
