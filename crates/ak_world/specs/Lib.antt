pub mod Leaves
pub mod Views
pub mod Worlds
pub mod Steps
pub mod Puts
pub mod Accepted
pub mod Valid
