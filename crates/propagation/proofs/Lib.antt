pub mod Narrows
pub mod Hits
pub mod Making
pub mod Eases
pub mod Halving
