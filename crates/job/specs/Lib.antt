pub mod Faults
pub mod Making
pub mod Performing
pub mod Stages
pub mod Lines
pub mod Words
