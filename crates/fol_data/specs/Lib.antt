pub mod Rests
pub mod Sizes
