pub mod LineValue
