pub mod Contact
pub mod Opened
pub mod Ordered
pub mod Slid
pub mod Swept
