pub mod Slots
pub mod SlotKeys
pub mod Links
pub mod Rows
pub mod Owners
pub mod Book
pub mod Parted
