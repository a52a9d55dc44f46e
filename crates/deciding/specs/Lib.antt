pub mod Search
pub mod Concluding
pub mod Held
