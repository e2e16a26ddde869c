pub mod SevenBits
pub mod FromSources
pub mod VintLaws
pub mod NumbersRead
pub mod PairsRead
pub mod ListsRead
pub mod ShortVints
pub mod SliceParts
