pub mod Publications
pub mod Rows
pub mod Boards
pub mod Looks
pub mod Ties
pub mod Writing
