pub mod Calls
pub mod Made
