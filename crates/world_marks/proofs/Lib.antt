pub mod Newest
pub mod ReadyIndex
pub mod UndoneLists
