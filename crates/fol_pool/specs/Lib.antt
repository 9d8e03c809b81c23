pub mod Works
pub mod Script
pub mod Team
