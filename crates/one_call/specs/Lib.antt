-- Laws of the match in one call.
pub mod Items
pub mod Top
pub mod Assemble
pub mod Call
pub mod Answers
