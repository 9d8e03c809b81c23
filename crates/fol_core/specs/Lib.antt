pub mod Meaning
pub mod Ticks
pub mod Answers
pub mod Ahead
pub mod Room
pub mod Undone
pub mod Quiet
pub mod First
