mod Headed
mod Parts
mod Slots
pub mod Cutting
pub mod Digits
pub mod Tallies
