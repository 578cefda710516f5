pub mod Stops
pub mod Writing
pub mod Storing
pub mod Standing
pub mod Adding
pub mod Later
