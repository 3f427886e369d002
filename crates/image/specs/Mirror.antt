pub mod RawBytes
pub mod TableBytes
pub mod EntryOrder
pub mod Filled
