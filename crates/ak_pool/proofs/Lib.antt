pub mod Uses
pub mod Theirs
pub mod Distinct
pub mod Chained
pub mod Kept
