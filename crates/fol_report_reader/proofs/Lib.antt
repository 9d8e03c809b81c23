pub mod Lines
pub mod Behind
