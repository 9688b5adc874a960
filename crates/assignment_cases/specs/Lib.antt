-- What the comparing program's functions keep.
pub mod Small
