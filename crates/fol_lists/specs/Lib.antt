pub mod Numbered
pub mod Spans
