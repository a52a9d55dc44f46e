pub mod Mark
pub mod Rule
pub mod Cost
pub mod Plan
pub mod Fault
