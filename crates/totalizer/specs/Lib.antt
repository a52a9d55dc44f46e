pub mod Heap
pub mod Clauses
pub mod Encoding
