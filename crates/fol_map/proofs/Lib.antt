pub mod Chunks
pub mod Tickets
pub mod Ordered
pub mod Outcomes
