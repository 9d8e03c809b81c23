pub mod FreeSeats
