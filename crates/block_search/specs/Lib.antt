pub mod ByKey
pub mod ByNumber
pub mod Standing
