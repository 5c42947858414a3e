pub mod Buckets
pub mod Candidates
pub mod Copies
pub mod Grid
pub mod LevelLaws
pub mod Leveled
pub mod Standing
pub mod StretchLaws
