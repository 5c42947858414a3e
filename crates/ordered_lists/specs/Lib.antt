pub mod Ascending
pub mod FrontLaws
pub mod Leasts
pub mod Ordered
pub mod OrderedLaws
pub mod SortedLists
