pub mod Points
pub mod Refusals
pub mod Stops
pub mod Ranges
pub mod Values
pub mod Selections
pub mod RowTexts
