pub mod Fields
pub mod Uvar
pub mod Zigzag
pub mod Head
