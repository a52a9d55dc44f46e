pub mod Pieces
pub mod Undoing
pub mod Reaching
pub mod Visiting
pub mod Going
