pub mod Crossing
pub mod PlaceKeys
