pub mod Outcomes
pub mod Stages
pub mod Freshness
pub mod OneTask
pub mod NextTask
pub mod TickLaws
pub mod ListCalls
pub mod WishRoom
