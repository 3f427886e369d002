pub mod NameLengths
