pub mod Bits
pub mod Bodies
pub mod Changes
pub mod Entries
pub mod Example
pub mod Pairing
pub mod Slots
pub mod Table
