pub mod Deed
pub mod Ending
pub mod FrameText
pub mod Outlet
pub mod Owed
pub mod Player
pub mod Reached
pub mod Step
