-- What writing a certificate leaves.
pub mod Frames
pub mod Records
pub mod Items
pub mod Call
pub mod Theorems
