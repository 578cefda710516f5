pub mod Ordinals
pub mod Places
