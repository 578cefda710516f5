pub mod Frames
pub mod Newest
pub mod Records
pub mod Refusals
