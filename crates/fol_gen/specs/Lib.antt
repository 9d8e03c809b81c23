pub mod MadeScript
pub mod MadeTexts
