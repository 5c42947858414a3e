pub mod Each
pub mod EachLaws
pub mod Runs
pub mod RunLaws
