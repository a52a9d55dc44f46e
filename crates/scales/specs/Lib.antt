pub mod Laws
pub mod Counts
pub mod Many
pub mod Models
