pub mod Collisions
pub mod Differences
pub mod Moving
pub mod NearTouches
