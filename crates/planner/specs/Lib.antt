pub mod Order
pub mod Points
pub mod Front
pub mod Runs
pub mod Search
pub mod Left
pub mod Calls
pub mod Faults
