pub mod Corners
pub mod InRange
pub mod PartsPut
pub mod Stages
pub mod Words
