pub mod Order
pub mod Summaries
pub mod Ones
pub mod Bounds
pub mod Folds
