pub mod Reads
pub mod Walks
pub mod Follows
pub mod Damage
pub mod Firsts
pub mod Under
