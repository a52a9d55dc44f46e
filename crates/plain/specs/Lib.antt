pub mod Held
pub mod Search
pub mod Asked
pub mod Kept
