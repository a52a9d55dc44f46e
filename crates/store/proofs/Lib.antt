pub mod Writing
pub mod Over
pub mod Encoded
pub mod Answering
