pub mod Faults
pub mod FirstPlace
pub mod NextBytes
pub mod Received
pub mod WholePieces
