-- What the assignment's contracts say: matchings and their greatest weight, the state of a solution, the tree of a search, the small loops, the counts.
pub mod Matching
pub mod State
pub mod Loops
pub mod Tree
pub mod Counts
pub mod Marks
