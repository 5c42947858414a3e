pub mod Counts
pub mod FullPairs
pub mod SlotCounts
