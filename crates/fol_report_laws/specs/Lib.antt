pub mod Told
pub mod ShortWords
pub mod Laws
