pub mod Literature
pub mod Reading
