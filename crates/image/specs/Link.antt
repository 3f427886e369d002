pub mod NamesDistinct
pub mod OrderFromCounts
pub mod FieldPlaces
pub mod ReadShape
pub mod SavedIsImage
