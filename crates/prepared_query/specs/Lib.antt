pub mod NarrowLine
pub mod Prepared
pub mod PreparedCast
pub mod Slope
