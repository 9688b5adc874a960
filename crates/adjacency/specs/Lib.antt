-- What reading the neighbours needs: a row that stays ascending, and the steps of the loops.
pub mod Insertion
pub mod NeighbourSteps
