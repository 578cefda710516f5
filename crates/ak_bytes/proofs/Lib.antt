pub mod Parts
pub mod Groups
pub mod Reading
pub mod Putting
pub mod FixedFields
pub mod Heads
