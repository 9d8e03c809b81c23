pub mod Lists
pub mod Steps
pub mod Dealt
pub mod Places
pub mod Posted
pub mod Taken
pub mod Closing
pub mod Crossing
