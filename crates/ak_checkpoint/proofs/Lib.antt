pub mod Bodies
pub mod Elsewhere
pub mod Frames
pub mod Records
pub mod Sizes
pub mod Stores
