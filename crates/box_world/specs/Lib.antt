pub mod Answers
pub mod Parts
pub mod Steps
pub mod World
