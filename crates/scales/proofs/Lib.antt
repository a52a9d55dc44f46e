pub mod ByPlaces
pub mod ManyJoined
