pub mod Words
pub mod Pairs
