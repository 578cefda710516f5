pub mod Powers
pub mod InScene
pub mod Stopped
pub mod Reaching
pub mod Spans
pub mod Links
pub mod Levels
pub mod FromLaid
