pub mod Entering
pub mod Searching
pub mod Answering
pub mod Laws
