pub mod Windows
pub mod Stretches
pub mod Costs
