-- Record lengths: for every pair of bytes, by the marks' names, and computed.
pub mod Cases
pub mod Marks
pub mod Named
