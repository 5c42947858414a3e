pub mod Boxes
pub mod Searches
pub mod Ties
pub mod Whole
