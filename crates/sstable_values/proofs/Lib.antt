pub mod VintLaws
pub mod RisingLaws
pub mod MonotonicLaws
pub mod Counted
pub mod ListLaws
pub mod IndexLaws
pub mod RangeLaws
pub mod Rows
