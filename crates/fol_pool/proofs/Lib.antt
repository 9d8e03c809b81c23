-- the ticks of a worker
pub mod Asked
pub mod Going
pub mod TickSteps
pub mod QuietTurns
-- the script
pub mod LineActions
pub mod Issuing
pub mod Carrying
-- all seats
pub mod Crossing
pub mod Newcomers
pub mod Together
