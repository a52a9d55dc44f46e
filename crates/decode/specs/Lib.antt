pub mod Format
pub mod Bytes
