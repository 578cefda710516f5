pub mod Chains
pub mod Frames
pub mod Lending
pub mod Links
pub mod Slots
