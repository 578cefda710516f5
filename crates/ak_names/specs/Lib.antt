pub mod Names
pub mod Spelled
pub mod Known
pub mod Tracks
pub mod Groups
