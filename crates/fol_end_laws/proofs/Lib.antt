pub mod KeptQueues
pub mod FinishedTicks
pub mod DropsInTurn
pub mod SentNowhere
pub mod GreatestInTurn
