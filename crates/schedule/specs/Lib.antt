pub mod Lines
pub mod Grammar
pub mod Examples
pub mod LineFacts
pub mod LineValue
pub mod Mirror
pub mod Link
