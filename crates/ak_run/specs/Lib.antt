pub mod Asking
pub mod Sessions
pub mod Contents
pub mod Replies
pub mod Run
pub mod Keeping
pub mod Fitting
pub mod Bulks
