pub mod Options
pub mod Parted
pub mod Order
pub mod Members
pub mod Apart
pub mod Rectangles
pub mod ChunkSets
