pub mod Order
pub mod Weights
pub mod Pages
pub mod Cells
pub mod Kept
