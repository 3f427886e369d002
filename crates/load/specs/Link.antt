pub mod ReadsBack
pub mod EntryEach
