pub mod Calls
pub mod Standing
pub mod Pieces
pub mod Names
pub mod Queries
pub mod Opening
pub mod Taken
