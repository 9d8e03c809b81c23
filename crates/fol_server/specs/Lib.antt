pub mod Crew
pub mod Whole
pub mod Dealt
