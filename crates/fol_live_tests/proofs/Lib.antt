mod FourSeats
