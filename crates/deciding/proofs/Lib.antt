pub mod Conclusions
pub mod Trying
