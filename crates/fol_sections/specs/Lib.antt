pub mod Table
pub mod Places
pub mod Kept
pub mod Rows
pub mod Pages
pub mod Turns
pub mod Packed
pub mod SquareRuns
