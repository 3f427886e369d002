pub mod Number
pub mod Words
pub mod Fields
pub mod ReadBack
pub mod FieldsBack
pub mod Examples
pub mod Link
