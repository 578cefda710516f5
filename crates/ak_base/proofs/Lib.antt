pub mod Basics
pub mod Histories
pub mod Numerals
pub mod Decimals
pub mod Readings
pub mod RowTexts
