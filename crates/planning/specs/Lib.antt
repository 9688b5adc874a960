-- What making the plan needs: the steps of its loops, parents, and the rows of each half.
pub mod Making
pub mod Parents
pub mod Rows
