pub mod Early
pub mod Named
pub mod Ahead
pub mod Coming
pub mod Runs
pub mod Passed
