pub mod Device
pub mod Memory
pub mod Sink
pub mod Source
