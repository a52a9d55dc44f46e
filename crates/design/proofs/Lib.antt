pub mod Truth
pub mod OfMarks
pub mod OfPrices
pub mod Totals
