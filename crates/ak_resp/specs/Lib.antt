pub mod Grammar
pub mod Kinds
pub mod Machine
pub mod Rows
pub mod Standing
pub mod Puts
