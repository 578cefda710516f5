pub mod Carries
pub mod Entries
pub mod Joins
pub mod Pending
pub mod Closes
pub mod Orders
