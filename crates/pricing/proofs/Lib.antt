pub mod Tabling
pub mod Costing
pub mod Bounding
pub mod Entering
