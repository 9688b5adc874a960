-- How much to lend.
pub mod Sums
pub mod Answers
