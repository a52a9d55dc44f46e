pub mod Setting
pub mod State
pub mod Calls
pub mod Checks
