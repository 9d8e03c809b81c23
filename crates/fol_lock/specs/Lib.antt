pub mod Log
pub mod Seat
pub mod Turn
pub mod Lock
pub mod View
pub mod Rule
pub mod Steps
pub mod Pass
