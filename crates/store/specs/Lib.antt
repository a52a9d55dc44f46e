pub mod Coding
pub mod Parts
pub mod Long
pub mod Checking
