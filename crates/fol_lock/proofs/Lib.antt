mod Lists
mod Functions
pub mod Logs
mod Stays
mod Starts
mod Draws
mod Looks
mod Passes
mod Deals
mod Gathers
mod Newcomers
mod Closes
pub mod Callers
