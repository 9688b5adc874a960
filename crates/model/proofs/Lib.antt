-- Theorems on definitions of specs/: an edit of the definition is refused here.
pub mod Refusals
