pub mod OnePoint
pub mod Steps
pub mod Cases
pub mod AtLevels
