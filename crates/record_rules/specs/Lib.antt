-- What the rules of one record need: its numbers, and branches covered by their duals.
pub mod Numbers
pub mod Cover
