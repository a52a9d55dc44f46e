pub mod Masks
pub mod Held
pub mod Narrowing
pub mod Easing
