pub mod Beside
pub mod BoxLists
pub mod Crossing
pub mod Masks
pub mod Packets
pub mod PlacedSlots
pub mod SpanLists
