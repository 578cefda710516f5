pub mod Heads
pub mod Lengths
pub mod Readers
pub mod Rows
