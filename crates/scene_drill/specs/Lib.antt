pub mod Allowed
pub mod Drill
pub mod Slots
pub mod Summary
pub mod Tally
