pub mod Waiting
pub mod Distinct
pub mod Again
pub mod Turn
pub mod Below
pub mod Parted
