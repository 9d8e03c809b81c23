pub mod Words
pub mod Hands
pub mod Steps
pub mod Shown
pub mod Answers
pub mod Keeping
pub mod Moments
pub mod Table
