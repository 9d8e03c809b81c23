pub mod InRange
pub mod Pieces
pub mod Heads
pub mod Bodies
pub mod Postable
pub mod Cuts
pub mod Told
pub mod Laws
