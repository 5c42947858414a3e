pub mod Counts
pub mod PrintedLines
pub mod PrintedPlay
pub mod Uncounted
pub mod Upgraded
