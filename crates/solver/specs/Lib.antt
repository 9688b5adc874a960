-- Laws of the solver.
pub mod Exact
pub mod Heaviest
pub mod Numbers
pub mod Choice
pub mod Branches
pub mod FillLaws
pub mod Bound
pub mod Mates
