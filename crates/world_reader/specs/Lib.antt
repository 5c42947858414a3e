pub mod HeldReader
pub mod Reads
pub mod Shared
