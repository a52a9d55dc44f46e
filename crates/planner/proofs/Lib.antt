pub mod Lists
pub mod Fronts
pub mod Extend
pub mod Halving
pub mod Telling
