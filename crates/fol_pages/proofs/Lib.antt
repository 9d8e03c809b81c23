pub mod Quotients
pub mod PagePlaces
pub mod PageRuns
pub mod AbsentPages
pub mod LyingIn
pub mod NearPages
pub mod PageChanges
pub mod TableSteps
