pub mod Cutting
pub mod FeedCount
pub mod Ranges
pub mod Settling
