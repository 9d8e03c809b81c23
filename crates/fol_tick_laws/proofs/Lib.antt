pub mod FreshArrivals
pub mod BegunTicks
pub mod FinishedTicks
pub mod OpenTicks
pub mod ToldAgain
pub mod Unprepared
pub mod Touching
