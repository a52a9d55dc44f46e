pub mod Reading
pub mod Entering
pub mod Writing
pub mod Booking
pub mod Deciding
