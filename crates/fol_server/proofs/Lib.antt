pub mod All
pub mod Dealt
pub mod Crossing
