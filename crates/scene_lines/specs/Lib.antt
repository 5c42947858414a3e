pub mod Layout
pub mod Next
pub mod Reading
pub mod SceneLines
