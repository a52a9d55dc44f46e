pub mod Trail
pub mod Sweeps
