pub mod Apart
pub mod Pieces
pub mod Over
pub mod Written
pub mod Views
pub mod Shifted
