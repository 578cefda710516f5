pub mod Fits
pub mod Opening
pub mod Slots
pub mod View
pub mod Written
