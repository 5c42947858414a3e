pub mod Colliding
pub mod Moves
pub mod Touching
