pub mod OpensModel
