pub mod KeptQueue
pub mod FinishedTick
pub mod DroppedHolds
pub mod SentEntities
pub mod OwedMost
