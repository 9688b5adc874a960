-- Duals of subproblems, and what a written certificate holds.
pub mod Left
pub mod Solved
pub mod Fits
pub mod Accepted
