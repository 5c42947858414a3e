pub mod Listing
pub mod Search
pub mod Visits
pub mod WalkFinds
