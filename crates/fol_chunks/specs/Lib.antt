pub mod Order
pub mod Boxed
pub mod Contents
pub mod Rows
pub mod Crowds
pub mod Tallies
pub mod Areas
pub mod Masks
