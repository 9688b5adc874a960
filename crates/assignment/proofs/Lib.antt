-- The theorems behind the functions' proofs, each file over those before it: weak duality, a search's steps on functions, the same with duals written at
-- its end, the small loops, the turns on arrays, the start and the ends, and computed examples.
pub mod Duality
pub mod Steps
pub mod Runs
pub mod Leaves
pub mod Turns
pub mod Counting
pub mod Roots
pub mod Choices
pub mod Examples
mod Distances
