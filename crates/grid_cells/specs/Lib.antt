pub mod AppendLaws
pub mod Appended
pub mod CellLaws
pub mod Cells
pub mod Sized
pub mod SlotLaws
pub mod WalkLaws
pub mod Walks
