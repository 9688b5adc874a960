-- Laws of the match program.
pub mod Room
pub mod Show
