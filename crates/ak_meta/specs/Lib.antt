pub mod Contents
pub mod Leaves
pub mod Lending
