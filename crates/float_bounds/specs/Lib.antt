pub mod Around
pub mod Format
pub mod Laws
pub mod Narrow
pub mod Order
pub mod Rank
pub mod Rounding
pub mod Value
