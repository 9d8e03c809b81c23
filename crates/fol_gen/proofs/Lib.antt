pub mod Below
pub mod MadeLines
