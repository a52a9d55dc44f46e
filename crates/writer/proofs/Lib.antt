pub mod Clause
pub mod Parts
pub mod Marks
pub mod Opposites
pub mod Joins
