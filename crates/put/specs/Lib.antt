-- What storing the parts of a certificate leaves.
pub mod Kept
pub mod Puts
pub mod Front
