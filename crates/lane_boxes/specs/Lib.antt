pub mod Bits
pub mod Boxes
pub mod Places
pub mod Spans
