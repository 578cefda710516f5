pub mod Calendar
pub mod Times
pub mod Steps
pub mod Dates
