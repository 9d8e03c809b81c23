pub mod FieldLimits
pub mod Printed
pub mod SameItem
pub mod RowValues
pub mod Laws
