pub mod AccessParts
