pub mod Folded
pub mod Joins
pub mod Merges
pub mod Orders
pub mod Parts
