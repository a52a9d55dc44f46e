pub mod OfBytes
pub mod OfMarks
