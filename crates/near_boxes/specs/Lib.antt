pub mod Bodies
pub mod NearOrder
pub mod Nearest
pub mod Rows
pub mod Search
pub mod Within
