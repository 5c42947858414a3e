pub mod Counted
pub mod FoundBodies
pub mod Gone
pub mod Marked
pub mod Refused
pub mod Stale
pub mod StillHolding
pub mod Telling
