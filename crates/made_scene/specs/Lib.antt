pub mod MadeScene
pub mod Ranges
