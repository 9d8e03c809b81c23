pub mod Numbers
pub mod Turns
pub mod Below
pub mod Parting
pub mod Coming
pub mod Queued
pub mod Crossing
