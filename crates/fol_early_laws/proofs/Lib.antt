pub mod MarkedGrids
pub mod EarlyTasks
pub mod EarlyWorlds
pub mod EarlyHolds
pub mod EarlyEnds
pub mod EarlyEvents
