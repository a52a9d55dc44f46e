pub mod Walking
pub mod Going
pub mod Stepping
