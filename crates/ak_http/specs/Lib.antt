pub mod Grammar
pub mod Head
pub mod Standing
