pub mod Calls
pub mod Opens
pub mod Media
