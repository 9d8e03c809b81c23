pub mod Parts
pub mod Runs
pub mod Pool
pub mod Spans
