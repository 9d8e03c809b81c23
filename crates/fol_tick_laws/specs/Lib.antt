pub mod OpenTicks
pub mod Touching
