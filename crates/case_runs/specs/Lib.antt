-- What the match answers on the table of small plants.
pub mod Answers
