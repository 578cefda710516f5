pub mod Fitting
pub mod Found
pub mod Heads
pub mod Newest
pub mod Spelled
