pub mod Calls
pub mod Runs
pub mod Prepared
pub mod Effects
pub mod ListAnswers
pub mod Laws
pub mod Logs
pub mod MostAsked
