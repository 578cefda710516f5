pub mod Commands
pub mod Told
pub mod Kept
pub mod Ends
pub mod Calls
pub mod Turns
pub mod Again
