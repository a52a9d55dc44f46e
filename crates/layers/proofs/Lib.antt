pub mod OfPlans
pub mod Through
