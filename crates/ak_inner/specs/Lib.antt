pub mod References
pub mod Nodes
