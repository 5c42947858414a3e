pub mod Stored
pub mod StoredReader
