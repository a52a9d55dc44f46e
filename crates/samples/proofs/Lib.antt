pub mod Unique
pub mod Checked
