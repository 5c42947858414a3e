pub mod Gathered
pub mod NearMembers
pub mod NearestPoint
pub mod OneNearest
pub mod Reached
pub mod Searched
