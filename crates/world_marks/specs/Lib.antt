pub mod HeldMarks
pub mod Marks
pub mod Undone
pub mod WayBack
