pub mod Counts
pub mod CrossedPairs
mod Descents
mod Groups
mod GroupsDone
mod Own
mod Preorders
mod Showing
